use Rattle.host_trees.proofs.Asking.{asks_one, asks_three}
use Rattle.host_trees.proofs.unpacking.read_file.Goals as goal

pub returns : goal.returns
returns g c = asks_three c.open.ensures c.read_contents-read.ensures (asks_one c.perform-closed.ensures tt)
