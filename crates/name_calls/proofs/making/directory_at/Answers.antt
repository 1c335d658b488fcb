use Rattle.call_parts.specs.BothTables.{tables_of, both}
use Rattle.std.specs.Prelude.{Option, Err, IsSome}
use Rattle.std.proofs.Common.{ℕ, sym, ap, subst, ◌∙◌, refl}
use Rattle.fs_cred.specs.declared.refusal.Refusal.{Refusal}
use Rattle.fs_model.specs.declared.call.Call.TheVariants.{Chdir}
use Rattle.fs_model.specs.declared.reply.Reply.TheVariants.{Done}
use Rattle.fs_model.specs.Processes.{Process, ProcessTable}
use Rattle.fs_model.specs.Scenes.{found_ino, with_process}
use Rattle.block_map.proofs.Runs.{unchanged_joined}
use Rattle.path_walk.proofs.Kept.{failed_with}
use Rattle.call_parts.specs.Callers.{ByProcess, ByCaller}
use Rattle.call_parts.specs.Performing.{Performs}
use Rattle.call_parts.proofs.Calling.{state_tree, found_there}
use Rattle.call_parts.proofs.Reachings.{walk_refused, asked_refused, process_changed}
use Rattle.call_parts.proofs.ByDescriptor.{changed_there}
use Rattle.name_calls.proofs.Entered.{chdir_by_path, entering_as, entered_as}
use Rattle.name_calls.proofs.making.directory_at.Goals as goal

pub returns-in_err-walked-clause-refused : goal.returns-in_err-walked-clause-refused
returns-in_err-walked-clause-refused g c =
    let r = c.from_residual.ensures in
    let x = rw c.requires.runs at c.in_err-walked.ensures in
    let e = c.in_err-walked.field-0.0 in
    let old = g.S.Sectors.state c.args.s.now in
    let new = g.S.Sectors.state c.walk_path.new.s in
    failed_with c.from_residual.result e
    (λ (e : Refusal). Performs c.args.caller.now.geometry c.args.caller.now.time (ByCaller (ByProcess c.args.pid) (Chdir c.args.path.now)) old new (tables_of c.args.caller.now) (tables_of c.args.caller.now) (Err e)) r.0 r.1
    (walk_refused (chdir_by_path c.args.path.now) (Err e) e refl refl x.same x.refused)

pub directory_found-requires : goal.directory_found-requires
directory_found-requires g c =
    let w = c.in_ok-walked.ensures.walked in
    let at = w.ready.is_state in
    record { sound = w.ready.sound; there = (w.ready.state.tree, state_tree at, λ n some. found_there n at (w.found w.ready.state at) some) }

pub returns-in_err-ino-clause-refused : goal.returns-in_err-ino-clause-refused
returns-in_err-ino-clause-refused g c =
    let r = c.from_residual-in_err-ino.ensures in
    let x = rw c.requires.runs at c.in_ok-walked.ensures in
    let f = c.in_ok-walked.walked.found in
    let e = c.in_err-ino.field-0.0 in
    let old = g.S.Sectors.state c.args.s.now in
    let mid = g.S.Sectors.state c.walk_path.new.s in
    let new = g.S.Sectors.state c.directory_found.new.s in
    failed_with c.from_residual-in_err-ino.result e
    (λ (e : Refusal). Performs c.args.caller.now.geometry c.args.caller.now.time (ByCaller (ByProcess c.args.pid) (Chdir c.args.path.now)) old new (tables_of c.args.caller.now) (tables_of c.args.caller.now) (Err e)) r.0 r.1
    (asked_refused (chdir_by_path c.args.path.now) x.same x.walked new (Err e) e refl refl c.in_err-ino.ensures.same.store {A = ℕ} (found_ino f)
    (λ s has at. entering_as s.tree f e mid.disk new.disk c.cred-cred.ensures (c.in_err-ino.ensures.each s.tree (state_tree at) (λ n some. found_there n at has some))))

pub returns-in_err-ino-clause-same : goal.returns-in_err-ino-clause-same
returns-in_err-ino-clause-same g c = unchanged_joined c.in_ok-walked.ensures.same c.in_err-ino.ensures.same

pub returns-clause-there : goal.returns-clause-there
returns-clause-there g c = let there = rw c.requires.runs at c.in_ok-walked.ensures.walked.there in subst (λ (o : Option Process). IsSome o) (sym there) refl

pub returns-clause-entered : goal.returns-clause-entered
returns-clause-entered g c = λ now is_now.
    let x = rw c.requires.runs at c.in_ok-walked.ensures in
    let f = c.in_ok-walked.walked.found in
    let q = c.in_ok-walked.walked.process in
    let n = c.in_ok-ino.ino in
    process_changed (chdir_by_path c.args.path.now) x.same x.walked (g.S.Sectors.state c.directory_found.new.s) now c.in_ok-ino.ensures.same
    (record q { cwd = n }) Done
    (is_now ∙ ap (λ (m : ProcessTable). both m c.args.caller.now.openings.now.0) (changed_there _ c.args.pid q (λ p. record p { cwd = n }) x.walked.there)) refl
    (λ s has at.
    let met = entered_as s.tree f n c.cred-cred.ensures (c.in_ok-ino.ensures.each s.tree (state_tree at) (λ k some. found_there k at has some)) in
    (met.0, ap (λ (k : ℕ). with_process (record q { cwd = k }) Done) met.1))

pub returns-clause-same : goal.returns-clause-same
returns-clause-same g c = unchanged_joined c.in_ok-walked.ensures.same c.in_ok-ino.ensures.same
