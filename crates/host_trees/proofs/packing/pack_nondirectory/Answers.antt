use Rattle.host_trees.proofs.Asking.{asks_nothing}
use Rattle.host_trees.proofs.packing.pack_nondirectory.Goals as goal

pub returns-in_err-first : goal.returns-in_err-first
returns-in_err-first g c = asks_nothing _ _
