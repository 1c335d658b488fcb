use Rattle.host_trees.proofs.Asking.{tells_asked, tells_then}
use Rattle.host_trees.proofs.unpacking.unpack_by.Goals as goal

pub returns-in-Ok : goal.returns-in-Ok
returns-in-Ok g c = tells_then (tells_asked _ c.unpack_root.ensures) c.unpack_rest.ensures

pub returns : goal.returns
returns g c = tells_asked _ c.unpack_root.ensures
