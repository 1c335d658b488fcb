use Rattle.std.proofs.Common.{ap}
use Rattle.fuse_plans.specs.Works.{or_closed}
use Rattle.fuse_steps.proofs.Steps.{machine-gives, machine-ok, machine-same, machine-has-failed}
use Rattle.fuse_steps.proofs.asker.or_closed.Goals as goal

pub returns-in-Ok : goal.returns-in-Ok
returns-in-Ok g c = machine-same (ap (or_closed _) c.in-Ok.is) (machine-gives _ _)

pub returns-in-Err : goal.returns-in-Err
returns-in-Err g c = machine-same (ap (or_closed _) c.in-Err.is) (machine-ok _ c.close.ensures.1 (machine-has-failed _ _))
