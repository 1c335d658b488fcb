use Rattle.host_trees.proofs.Asking.{asks_nothing}
use Rattle.host_trees.proofs.packing.pack_object.Goals as goal

pub returns-in_err-metadata : goal.returns-in_err-metadata
returns-in_err-metadata g c = asks_nothing _ _
