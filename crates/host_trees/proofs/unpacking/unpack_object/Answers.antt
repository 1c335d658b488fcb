use Rattle.host_trees.proofs.Asking.{asks_then}
use Rattle.host_trees.proofs.unpacking.unpack_object.Goals as goal

pub returns : goal.returns
returns g c = asks_then c.seen_at.ensures c.unpack_nondirectory.ensures
