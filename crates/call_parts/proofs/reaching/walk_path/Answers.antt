use Rattle.call_parts.specs.Callers.{who_of}
use Rattle.fs_cred.specs.declared.refusal.Refusal.TheVariants.{Failed}
use Rattle.path_walk.proofs.Kept.{failed_with}
use Rattle.call_parts.proofs.ByPath.{same_err}
use Rattle.call_parts.proofs.Calling.{same_caller}
use Rattle.call_parts.proofs.Reachings.{absent_walk, unchecked_walk, walk_denied, walk_found}
use Rattle.call_parts.proofs.reaching.walk_path.Goals as goal

pub returns-in_err-process-clause-refused : goal.returns-in_err-process-clause-refused
returns-in_err-process-clause-refused g c =
    let r = c.from_residual.ensures in
    let old = (g.S.Sectors.state c.args.s.now).disk in
    failed_with c.from_residual.result (Failed c.in_err-process.field-0.0) _ r.0 r.1
    (λ s at. absent_walk at old old (who_of c.args.caller.now.by) c.args.checks c.args.links c.args.form c.args.path.now c.in_err-process.field-0.0 c.in_err-process.ensures.absent)

pub returns-in_err-checks-clause-refused : goal.returns-in_err-checks-clause-refused
returns-in_err-checks-clause-refused g c =
    let r = c.from_residual-in_err-checks.ensures in
    let old = g.S.Sectors.state c.args.s.now in
    let q = c.in_ok-process.process in
    let e = c.in_err-checks.field-0.0 in
    failed_with c.from_residual-in_err-checks.result e _ r.0 r.1
    (λ s at. unchecked_walk old.disk old.disk s (who_of c.args.caller.now.by) q (same_caller at (who_of c.args.caller.now.by) q c.in_ok-process.ensures.found) c.args.checks c.args.links c.args.form c.args.path.now e
    c.in_err-checks.was)

pub find-requires : goal.find-requires
find-requires g c = record { ready = c.requires.ready; stands = c.in_ok-process.ensures.found }

pub returns-in_err-found-clause-refused : goal.returns-in_err-found-clause-refused
returns-in_err-found-clause-refused g c =
    let r = c.from_residual-in_err-found.ensures in
    let found = c.in_err-found.ensures in
    let e = c.in_err-found.field-0.0 in
    failed_with c.from_residual-in_err-found.result e _ r.0 r.1
    (walk_denied (g.S.Sectors.state c.args.s.now) (g.S.Sectors.state c.find.new.s) c.in_ok-process.process c.in_ok-process.ensures.found c.in_ok-checks.was c.args.links c.args.form c.args.path.now e
    (λ x h. same_err e x (found.checked x h)) found.each)

pub returns-clause-walked : goal.returns-clause-walked
returns-clause-walked g c =
    let found = c.in_ok-found.ensures in
    walk_found (g.S.Sectors.state c.args.s.now) (g.S.Sectors.state c.find.new.s) c.in_ok-process.process c.in_ok-process.ensures.found c.in_ok-checks.was c.args.links c.args.form c.args.path.now
    c.requires.ready c.bytes-bytes.ensures.valid found.same found.valid (found.each found.valid)
