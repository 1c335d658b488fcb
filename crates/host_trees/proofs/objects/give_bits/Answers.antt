use Rattle.host_trees.proofs.Asking.{asks_nothing}
use Rattle.host_trees.proofs.objects.give_bits.Goals as goal

pub returns : goal.returns
returns g c = asks_nothing _ _
