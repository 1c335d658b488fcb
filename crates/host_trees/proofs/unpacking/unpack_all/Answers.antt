use Rattle.host_trees.proofs.Asking.{tells_asked, tells_then}
use Rattle.host_trees.proofs.unpacking.unpack_all.Goals as goal

pub returns-in-Ok : goal.returns-in-Ok
returns-in-Ok g c = tells_then (tells_asked _ c.spawn_reader.ensures) c.unpack_by.ensures

pub returns-in-Err : goal.returns-in-Err
returns-in-Err g c = tells_asked _ c.spawn_reader.ensures
