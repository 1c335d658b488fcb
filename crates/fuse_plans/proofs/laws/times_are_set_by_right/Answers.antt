use Rattle.fuse_plans.proofs.RecordedRequests.{times_are_set_by_right as law}
use Rattle.fuse_plans.proofs.laws.times_are_set_by_right.Goals as goal

pub returns : goal.returns
returns c = law
