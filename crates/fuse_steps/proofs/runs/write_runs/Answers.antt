use Rattle.fuse_plans.specs.FilePlans.{write_runs}
use Rattle.fuse_steps.proofs.Steps.{machine-attempts, machine-ok}
use Rattle.fuse_steps.proofs.runs.write_runs.Goals as goal

pub returns : goal.returns
unfolding write_runs
returns g c = machine-ok _ (machine-attempts _ c.write_pieces-wrote.ensures) c.or_by_moves.ensures
