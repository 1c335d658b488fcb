use Rattle.host_trees.proofs.Asking.{asks_one, asks_then}
use Rattle.host_trees.proofs.objects.give_mode.Goals as goal

pub returns : goal.returns
returns g c = asks_then c.hand_for.ensures (asks_one c.perform.ensures tt)
