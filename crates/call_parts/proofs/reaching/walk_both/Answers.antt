use Rattle.fs_cred.specs.declared.refusal.Refusal.TheVariants.{Failed}
use Rattle.fs_layout.specs.Bytes.{SectorMap}
use Rattle.path_walk.proofs.Kept.{failed_with, kept_back}
use Rattle.call_parts.specs.BothTables.{tables_of}
use Rattle.call_parts.specs.Callers.{who_of}
use Rattle.call_parts.specs.Performing.{IsStateOf}
use Rattle.call_parts.proofs.ByTwoPaths.{absent_both, unwalked_both, both_found, same_err}
use Rattle.call_parts.proofs.Calling.{same_caller}
use Rattle.call_parts.proofs.Reachings.{ready_kept}
use Rattle.call_parts.proofs.reaching.walk_both.Goals as goal

pub returns-in_err-process-clause-refused : goal.returns-in_err-process-clause-refused
returns-in_err-process-clause-refused g c =
    let r = c.from_residual.ensures in
    let old = (g.S.Sectors.state c.args.s.now).disk in
    failed_with c.from_residual.result (Failed c.in_err-process.field-0.0) _ r.0 r.1
    (λ s at. absent_both at old old (who_of c.args.caller.now.by) c.args.links c.args.old.now c.args.new.now c.in_err-process.field-0.0 c.in_err-process.ensures.absent)

pub find_names-requires : goal.find_names-requires
find_names-requires g c = record { ready = c.requires.ready; stands = c.in_ok-process.ensures.found }

pub returns-in_err-first-clause-refused : goal.returns-in_err-first-clause-refused
returns-in_err-first-clause-refused g c =
    let r = c.from_residual-in_err-first.ensures in
    let found = c.in_err-first.ensures in
    let old = g.S.Sectors.state c.args.s.now in
    let new = g.S.Sectors.state c.find_names.new.s in
    let q = c.in_ok-process.process in
    let who = who_of c.args.caller.now.by in
    let e = c.in_err-first.field-0.0 in
    failed_with c.from_residual-in_err-first.result e _ r.0 r.1
    (λ s at. unwalked_both old.disk new.disk s who q (same_caller at who q c.in_ok-process.ensures.found) c.args.links c.args.old.now c.args.new.now e
    (λ x h. same_err e x (found.checked x h)) (λ none. found.each none s at))

pub returns-clause-walked : goal.returns-clause-walked
returns-clause-walked g c =
    let found = c.in_ok-first.ensures in
    let old = g.S.Sectors.state c.args.s.now in
    let new = g.S.Sectors.state c.find_names.new.s in
    let q = c.in_ok-process.process in
    let there = c.in_ok-process.ensures.found in
    let who = who_of c.args.caller.now.by in
    record {
      ready = ready_kept found.same c.requires.ready;
      there = there;
      old_bytes = found.old_bytes;
      new_bytes = found.new_bytes;
      found = λ s at.
          let before = kept_back (λ (m : SectorMap). IsStateOf c.args.caller.now.geometry m (tables_of c.args.caller.now) s) found.same at in
          both_found old.disk new.disk s who q (same_caller before who q there) c.args.links c.args.old.now c.args.new.now c.in_ok-first.first c.in_ok-first.second found.valid
          (found.each found.valid s before);
    }
