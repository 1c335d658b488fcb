use Rattle.host_trees.proofs.Asking.{tells_then, tells_told}
use Rattle.host_trees.proofs.packing.pack_entered.Goals as goal

pub returns-in-Ok : goal.returns-in-Ok
returns-in-Ok g c = tells_then c.names_of.ensures c.pack_names.ensures

pub returns-in-Err : goal.returns-in-Err
returns-in-Err g c = tells_then c.names_of.ensures (tells_told c.name_lack.ensures.told)
