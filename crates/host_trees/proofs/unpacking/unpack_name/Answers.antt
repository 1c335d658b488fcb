use Rattle.host_trees.proofs.Asking.{tells_told}
use Rattle.host_trees.proofs.unpacking.unpack_name.Goals as goal

pub returns-in-Err : goal.returns-in-Err
returns-in-Err g c = tells_told c.name_lack.ensures.told
