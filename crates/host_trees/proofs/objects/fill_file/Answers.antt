use Rattle.host_trees.proofs.Asking.{asks_one, asks_three}
use Rattle.host_trees.proofs.objects.fill_file.Goals as goal

pub returns : goal.returns
returns g c = asks_three c.write_contents-written.ensures c.stamp_open-stamped.ensures (asks_one c.perform-closed.ensures tt)
