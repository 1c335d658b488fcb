use Rattle.host_trees.proofs.Asking.{asks_nothing}
use Rattle.host_trees.proofs.objects.stamp.Goals as goal

pub returns-in-None : goal.returns-in-None
returns-in-None g c = asks_nothing _ _
