use Rattle.host_trees.proofs.Asking.{tells_nothing, tells_then}
use Rattle.host_trees.proofs.packing.pack_directories.Goals as goal

pub loop-init : goal.loop-init
loop-init g c = tells_nothing _ _ _

pub loop-preserved : goal.loop-preserved
loop-preserved g c = tells_then c.loop.invariant c.pack_below.ensures
