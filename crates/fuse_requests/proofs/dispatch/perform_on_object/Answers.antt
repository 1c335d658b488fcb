use Rattle.std.specs.Prelude.{Some}
use Rattle.std.proofs.Common.{ap}
use Rattle.fuse_protocol.specs.declared.operation.Operation.{Operation}
use Rattle.fuse_plans.specs.Flags.{is_trunc}
use Rattle.fuse_plans.specs.Serving.{asked_for}
use Rattle.fuse_requests.proofs.Answerings.{told-if}
use Rattle.fuse_requests.proofs.dispatch.perform_on_object.Goals as goal

pub returns-in-Open-clause-answered : goal.returns-in-Open-clause-answered
returns-in-Open-clause-answered g c value =
    told-if (is_trunc c.in-Open.flags.0) c.args.asked.now (ap (λ (o : Operation). asked_for c.args.asked value (Some o)) c.in-Open.is)
    (rw c.is_trunc.ensures at c.tell_time_if.ensures.did) c.open_file.ensures c.response_of-in-Open.ensures
