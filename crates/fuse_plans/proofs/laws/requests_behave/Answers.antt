use Rattle.fuse_plans.proofs.laws.requests_behave.Goals as goal
use Rattle.fuse_plans.proofs.RequestConducts.{requests_behave as law}

pub returns : goal.returns
returns c = law
