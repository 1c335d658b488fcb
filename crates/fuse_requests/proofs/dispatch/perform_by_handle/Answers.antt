use Rattle.std.specs.Prelude.{Some, IfOk}
use Rattle.std.proofs.Common.{sym, ap, subst}
use Rattle.fuse_protocol.specs.declared.operation.Operation.{Operation}
use Rattle.fuse_plans.specs.Serving.{Task, asked_for}
use Rattle.fuse_requests.specs.Performing.{Answered}
use Rattle.fuse_requests.proofs.dispatch.perform_by_handle.Goals as goal

pub returns-in-Write-clause-answered : goal.returns-in-Write-clause-answered
returns-in-Write-clause-answered g c value =
    subst (λ (plan : Task). Answered g.M.Machine.Serves plan c.args.session.now c.perform_write.new.session c.perform_write.result)
    (sym (ap (λ (o : Operation). asked_for c.args.asked.now value (Some o)) c.in-Write.is)) c.perform_write.ensures

pub returns-in-ReadDirPlus-clause-answered : goal.returns-in-ReadDirPlus-clause-answered
returns-in-ReadDirPlus-clause-answered g c value =
    subst (λ (plan : Task). IfOk c.perform_listing.result (Answered g.M.Machine.Serves plan c.args.session.now c.perform_listing.new.session))
    (sym (ap (λ (o : Operation). asked_for c.args.asked.now value (Some o)) c.in-ReadDirPlus.is)) c.perform_listing.ensures.answered
