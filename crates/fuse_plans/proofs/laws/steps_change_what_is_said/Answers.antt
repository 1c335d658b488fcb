use Rattle.fuse_plans.proofs.AlterSteps.{steps_change_what_is_said as law}
use Rattle.fuse_plans.proofs.laws.steps_change_what_is_said.Goals as goal

pub returns : goal.returns
returns c = law
