use Rattle.host_trees.proofs.Asking.{asks_then}
use Rattle.host_trees.proofs.objects.finish_directory.Goals as goal

pub returns-in_err-stamp : goal.returns-in_err-stamp
returns-in_err-stamp g c = asks_then c.give_bits.ensures c.stamp.ensures

pub returns : goal.returns
returns g c = asks_then c.give_bits.ensures c.stamp.ensures
