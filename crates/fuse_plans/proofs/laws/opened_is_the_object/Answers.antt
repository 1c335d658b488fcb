use Rattle.fuse_plans.proofs.RecordedRequests.{opened_is_the_object as law}
use Rattle.fuse_plans.proofs.laws.opened_is_the_object.Goals as goal

pub returns : goal.returns
returns c = law
