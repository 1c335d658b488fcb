use Rattle.host_trees.proofs.Asking.{asks_nothing}
use Rattle.host_trees.proofs.packing.pack_new.Goals as goal

pub returns : goal.returns
returns g c = asks_nothing _ _
