use Rattle.std.specs.Prelude.{Some}
use Rattle.std.proofs.Common.{ap}
use Rattle.fuse_protocol.specs.declared.operation.Operation.{Operation}
use Rattle.fuse_plans.specs.Serving.{asked_for}
use Rattle.fuse_requests.proofs.Answerings.{refuses}
use Rattle.fuse_requests.proofs.dispatch.perform_on_whole.Goals as goal

pub returns-in-Unknown-clause-answered : goal.returns-in-Unknown-clause-answered
returns-in-Unknown-clause-answered g c asked value = refuses _ (ap (λ (o : Operation). asked_for asked value (Some o)) c.in-Unknown.is)
