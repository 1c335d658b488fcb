use Rattle.host_trees.proofs.Asking.{asks_nothing}
use Rattle.host_trees.proofs.unpacking.unpack_file.Goals as goal

pub returns-in_err-file : goal.returns-in_err-file
returns-in_err-file g c = asks_nothing _ _
