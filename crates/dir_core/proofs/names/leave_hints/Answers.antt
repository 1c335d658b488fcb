use Rattle.block_map.proofs.Runs.{unchanged_joined}
use Rattle.dir_core.proofs.names.leave_hints.Goals as goal

pub loop-k-preserved : goal.loop-k-preserved
loop-k-preserved g c = unchanged_joined c.loop-k.invariant c.leave_hint.ensures
