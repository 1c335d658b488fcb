use Rattle.call_parts.proofs.Reachings.{walk_refused}
use Rattle.name_calls.proofs.RemovalRows.{removes_by_path}
use Rattle.name_calls.proofs.Walkings.{performs_after}
use Rattle.name_calls.proofs.removal.remove_target.Goals as goal

pub returns-in_err-walked : goal.returns-in_err-walked
returns-in_err-walked g c =
    let r = c.from_residual.ensures in
    let x = c.in_err-walked.ensures in
    walk_refused (removes_by_path c.args.what c.args.path.now) c.from_residual.result c.in_err-walked.field-0.0 r.0 r.1 x.same x.refused

pub remove_walked-requires : goal.remove_walked-requires
remove_walked-requires g c = (c.args.path.now, c.in_ok-walked.ensures.walked)

pub returns : goal.returns
returns g c = let x = c.in_ok-walked.ensures in performs_after _ x.same (c.remove_walked.ensures c.args.path.now x.walked)
