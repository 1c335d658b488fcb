use Rattle.std.specs.Prelude.{Result}
use Rattle.std.proofs.Common.{ap}
use Rattle.fs_model.specs.declared.reply.Status.{Status}
use Rattle.fuse_plans.specs.declared.request_error.RequestError.{RequestError}
use Rattle.fuse_plans.specs.NamePlans.{found_or_absent}
use Rattle.fuse_sessions.proofs.Doings.{of-result, reads, reads-last, same-work, then-fails, then-ok}
use Rattle.fuse_sessions.proofs.session.Session.found_or_absent.Goals as goal

pub returns-in_err-stamps-in-Ok-clause-did : goal.returns-in_err-stamps-in-Ok-clause-did
returns-in_err-stamps-in-Ok-clause-did g c =
    same-work (ap (λ (seen : Result Status RequestError). found_or_absent c.args.needs_nobody seen) c.in-Ok.is)
    (then-fails _ c.from_residual.ensures c.in_err-stamps-in-Ok.ensures.did)

pub returns-in_ok-stamps-in-Ok-clause-did : goal.returns-in_ok-stamps-in-Ok-clause-did
returns-in_ok-stamps-in-Ok-clause-did g c =
    same-work (ap (λ (seen : Result Status RequestError). found_or_absent c.args.needs_nobody seen) c.in-Ok.is)
    (then-ok _ c.in_ok-stamps-in-Ok.ensures.did (reads-last _ _ c.looked_up_body.ensures))

pub returns-in-Err-clause-did : goal.returns-in-Err-clause-did
returns-in-Err-clause-did g c =
    same-work (ap (λ (seen : Result Status RequestError). found_or_absent c.args.needs_nobody seen) c.in-Err.is)
    (reads _ _ c.settings.ensures (of-result c.or_keep_absent.ensures))
