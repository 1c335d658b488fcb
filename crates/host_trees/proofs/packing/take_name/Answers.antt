use Rattle.host_trees.proofs.Asking.{tells_nothing, tells_told}
use Rattle.host_trees.proofs.packing.take_name.Goals as goal

pub returns-in-Err : goal.returns-in-Err
returns-in-Err g c = tells_told c.name_lack.ensures.told

pub returns-in-Ok : goal.returns-in-Ok
returns-in-Ok g c = tells_nothing _ _ _
