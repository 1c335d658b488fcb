use Rattle.host_trees.proofs.Asking.{tells_asked, tells_nothing, tells_then, tells_told}
use Rattle.host_trees.proofs.packing.finish_directories.Goals as goal

pub loop-init : goal.loop-init
loop-init g c = tells_nothing _ _ _

pub loop-preserved : goal.loop-preserved
loop-preserved g c =
    tells_then c.loop.invariant (tells_then (tells_asked _ c.finish_directory-finished.ensures) (tells_told c.name_if_lacking.ensures.told))
