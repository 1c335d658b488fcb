use Rattle.host_trees.proofs.Asking.{tells_nothing, tells_then}
use Rattle.host_trees.proofs.unpacking.unpack_names.Goals as goal

pub loop-named-init : goal.loop-named-init
loop-named-init g c = tells_nothing _ _ _

pub loop-named-preserved : goal.loop-named-preserved
loop-named-preserved g c = tells_then c.loop-named.invariant c.unpack_name.ensures
