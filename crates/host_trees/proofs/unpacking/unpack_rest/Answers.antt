use Rattle.host_trees.proofs.Asking.{tells_then}
use Rattle.host_trees.proofs.unpacking.unpack_rest.Goals as goal

pub returns : goal.returns
returns g c = tells_then c.unpack_directories.ensures c.finish_directories.ensures
