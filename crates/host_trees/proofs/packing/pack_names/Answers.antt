use Rattle.host_trees.proofs.Asking.{tells_nothing, tells_then}
use Rattle.host_trees.proofs.packing.pack_names.Goals as goal

pub loop-name-init : goal.loop-name-init
loop-name-init g c = tells_nothing _ _ _

pub loop-name-preserved : goal.loop-name-preserved
loop-name-preserved g c = tells_then c.loop-name.invariant c.pack_name.ensures
