use Rattle.fuse_plans.proofs.laws.what_is_asked_may_be.Goals as goal
use Rattle.fuse_plans.proofs.RequestConducts.{runs_behave}

pub returns : goal.returns
returns c = runs_behave
