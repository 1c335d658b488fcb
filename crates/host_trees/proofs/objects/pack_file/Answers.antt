use Rattle.host_trees.proofs.Asking.{asks_nothing, asks_then, asks_three}
use Rattle.host_trees.proofs.objects.pack_file.Goals as goal

pub returns-in_err-file : goal.returns-in_err-file
returns-in_err-file g c = asks_nothing _ _

pub returns-in_err-fd : goal.returns-in_err-fd
returns-in_err-fd g c = asks_then c.hand_for.ensures c.create.ensures

pub returns : goal.returns
returns g c = asks_three c.hand_for.ensures c.create.ensures c.fill_file.ensures
