use Rattle.fuse_plans.specs.FilePlans.{write_piece}
use Rattle.fuse_steps.proofs.Steps.{machine-then}
use Rattle.fuse_steps.proofs.runs.write_piece.Goals as goal

pub returns-clause-did : goal.returns-clause-did
unfolding write_piece
returns-clause-did g c = machine-then _ c.obtain_write.ensures c.written.ensures.written
