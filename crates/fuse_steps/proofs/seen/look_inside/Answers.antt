use Rattle.fuse_plans.specs.Callers.{look_inside}
use Rattle.fuse_steps.proofs.Steps.{machine-then}
use Rattle.fuse_steps.proofs.seen.look_inside.Goals as goal

pub returns-clause-did : goal.returns-clause-did
unfolding look_inside
returns-clause-did g c = machine-then _ c.inside.ensures c.shown-seen.ensures
