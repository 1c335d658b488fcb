use Rattle.std.proofs.Common.{sym, refl, ap, subst, ◌∙◌}
use Rattle.fs_cred.specs.declared.refusal.Refusal.TheVariants.{Failed}
use Rattle.fs_model.specs.Demands.{first_of}
use Rattle.path_walk.proofs.Kept.{failed_with}
use Rattle.call_parts.specs.BothTables.{both}
use Rattle.call_parts.specs.Callers.{Who, ByProcess, ByActor, who_of}
use Rattle.file_calls.specs.declared.opening.Slot.TheVariants as slots
use Rattle.file_calls.specs.Openings.{open_asked}
use Rattle.file_calls.specs.Opens.{IsSlotChosen, IsSlotRefused}
use Rattle.file_calls.proofs.OpenRow.{asked_met, asked_some, slot_absent, process_in, slot_refused, slot_full, slot_lacks}
use Rattle.file_calls.proofs.opening.find_slot.Goals as goal

pub returns-in_err-process-in-Process-clause-refused : goal.returns-in_err-process-in-Process-clause-refused
returns-in_err-process-in-Process-clause-refused c =
    let r = c.from_residual.ensures in
    let x = c.in_err-process-in-Process in
    failed_with c.from_residual.result (Failed x.field-0.0) _ r.0 r.1
    (λ s same. subst (λ (w : Who). IsSlotRefused s w c.args.path.now c.args.flags c.args.mode (Failed x.field-0.0)) (sym (ap who_of c.in-Process.is))
    (slot_absent c.in-Process.pid c.args.path.now c.args.flags c.args.mode s x.field-0.0 same x.ensures.absent))

pub returns-in_err-check_open-in-Process-clause-refused : goal.returns-in_err-check_open-in-Process-clause-refused
returns-in_err-check_open-in-Process-clause-refused c =
    let r = c.from_residual-in_err-check_open-in-Process.ensures in
    let e = c.in_err-check_open-in-Process.field-0.0 in
    let q = c.in_ok-process-in-Process.field-0.now in
    let is = ap who_of c.in-Process.is in
    let asked = asked_some (who_of c.args.by) c.args.path.now c.args.flags c.args.mode e (sym c.in_err-check_open-in-Process.ensures.answer) in
    failed_with c.from_residual-in_err-check_open-in-Process.result e _ r.0 r.1
    (λ s same. subst (λ (w : Who). IsSlotRefused s w c.args.path.now c.args.flags c.args.mode e) (sym is)
    (slot_refused (ByProcess c.in-Process.pid) c.args.path.now c.args.flags c.args.mode q s e (process_in c.in-Process.pid q s same c.in_ok-process-in-Process.ensures.found)
    (ap (λ (w : Who). first_of (open_asked w c.args.flags c.args.mode c.args.path.now)) (sym is) ∙ asked)))

pub returns-in_err-fd-in-Process-clause-refused : goal.returns-in_err-fd-in-Process-clause-refused
returns-in_err-fd-in-Process-clause-refused c =
    let r = c.from_residual-in_err-fd-in-Process.ensures in
    let x = c.in_err-fd-in-Process in
    let q = c.in_ok-process-in-Process.field-0.now in
    let here = c.in_ok-process-in-Process.ensures.found in
    let is = ap who_of c.in-Process.is in
    let asked = asked_met (who_of c.args.by) c.args.path.now c.args.flags c.args.mode (sym c.in_ok-check_open-in-Process.ensures.answer) in
    failed_with c.from_residual-in_err-fd-in-Process.result (Failed x.field-0.0) _ r.0 r.1
    (λ s same. subst (λ (w : Who). IsSlotRefused s w c.args.path.now c.args.flags c.args.mode (Failed x.field-0.0)) (sym is)
    (slot_full c.in-Process.pid c.args.path.now c.args.flags c.args.mode q s x.field-0.0 c.args.procs.now (process_in c.in-Process.pid q s same here) here
    (ap (λ (w : Who). first_of (open_asked w c.args.flags c.args.mode c.args.path.now)) (sym is) ∙ asked) x.ensures.answer))

pub returns-in_err-check_open-in-Actor-clause-refused : goal.returns-in_err-check_open-in-Actor-clause-refused
returns-in_err-check_open-in-Actor-clause-refused c =
    let r = c.from_residual-in_err-check_open-in-Actor.ensures in
    let e = c.in_err-check_open-in-Actor.field-0.0 in
    let is = ap who_of c.in-Actor.is in
    let judged = c.actor-judged in
    let asked = asked_some (who_of c.args.by) c.args.path.now c.args.flags c.args.mode e (sym c.in_err-check_open-in-Actor.ensures.answer) in
    failed_with c.from_residual-in_err-check_open-in-Actor.result e _ r.0 r.1
    (λ s same. subst (λ (w : Who). IsSlotRefused s w c.args.path.now c.args.flags c.args.mode e) (sym is)
    (slot_refused (ByActor c.in-Actor.actor.now) c.args.path.now c.args.flags c.args.mode judged.result s e (record { is = judged.ensures.judged; cred = judged.ensures.cred })
    (ap (λ (w : Who). first_of (open_asked w c.args.flags c.args.mode c.args.path.now)) (sym is) ∙ asked)))

pub returns-in_err-reserve-in-Actor-clause-refused : goal.returns-in_err-reserve-in-Actor-clause-refused
returns-in_err-reserve-in-Actor-clause-refused c =
    let r = c.from_residual-in_err-reserve-in-Actor.ensures in
    let x = c.in_err-reserve-in-Actor in
    let is = ap who_of c.in-Actor.is in
    let judged = c.actor-judged in
    let asked = asked_met (who_of c.args.by) c.args.path.now c.args.flags c.args.mode (sym c.in_ok-check_open-in-Actor.ensures.answer) in
    failed_with c.from_residual-in_err-reserve-in-Actor.result (Failed x.field-0.0) _ r.0 r.1
    (λ s same. subst (λ (w : Who). IsSlotRefused s w c.args.path.now c.args.flags c.args.mode (Failed x.field-0.0)) (sym is)
    (slot_lacks c.in-Actor.actor.now c.args.path.now c.args.flags c.args.mode s x.field-0.0 judged.ensures.cred x.ensures.memory
    (ap (λ (w : Who). first_of (open_asked w c.args.flags c.args.mode c.args.path.now)) (sym is) ∙ asked)))

pub returns-in_ok-fd-in-Process-clause-placed : goal.returns-in_ok-fd-in-Process-clause-placed
returns-in_ok-fd-in-Process-clause-placed c =
    let is = ap who_of c.in-Process.is in
    let asked = asked_met (who_of c.args.by) c.args.path.now c.args.flags c.args.mode (sym c.in_ok-check_open-in-Process.ensures.answer) in
    subst (λ (w : Who). IsSlotChosen (both c.args.procs.now c.args.openings.now.0) w c.args.path.now c.args.flags c.args.mode (slots.Descriptor c.in-Process.pid c.in_ok-fd-in-Process.fd)) (sym is) (record {
      asked = ap (λ (w : Who). first_of (open_asked w c.args.flags c.args.mode c.args.path.now)) (sym is) ∙ asked;
      free = (refl, c.in_ok-fd-in-Process.ensures.answer, c.in_ok-fd-in-Process.ensures.unused);
    })

pub returns-in_ok-reserve-in-Actor-clause-placed : goal.returns-in_ok-reserve-in-Actor-clause-placed
returns-in_ok-reserve-in-Actor-clause-placed c =
    let is = ap who_of c.in-Actor.is in
    let asked = asked_met (who_of c.args.by) c.args.path.now c.args.flags c.args.mode (sym c.in_ok-check_open-in-Actor.ensures.answer) in
    subst (λ (w : Who). IsSlotChosen (both c.args.procs.now c.args.openings.now.0) w c.args.path.now c.args.flags c.args.mode slots.Handle) (sym is) (record {
      asked = ap (λ (w : Who). first_of (open_asked w c.args.flags c.args.mode c.args.path.now)) (sym is) ∙ asked;
      free = tt;
    })
