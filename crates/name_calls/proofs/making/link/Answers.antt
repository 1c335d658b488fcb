use Rattle.call_parts.proofs.ByTwoPaths.{walks_refused}
use Rattle.name_calls.proofs.Linkings.{link_by_two}
use Rattle.name_calls.proofs.Walkings.{performs_after}
use Rattle.name_calls.proofs.making.link.Goals as goal

pub returns-in_err-walked : goal.returns-in_err-walked
returns-in_err-walked g c =
    let r = c.from_residual.ensures in
    let x = c.in_err-walked.ensures in
    walks_refused (link_by_two c.args.old.now c.args.new.now) c.from_residual.result c.in_err-walked.field-0.0 r.0 r.1 x.same x.refused

pub link_walked-requires : goal.link_walked-requires
link_walked-requires g c = (c.args.old.now, c.args.new.now, c.in_ok-walked.ensures.walked)

pub returns : goal.returns
returns g c = let x = c.in_ok-walked.ensures in performs_after _ x.same (c.link_walked.ensures c.args.old.now c.args.new.now x.walked)
