use Rattle.host_trees.proofs.Asking.{asks_nothing}
use Rattle.host_trees.proofs.work.hand_for.Goals as goal

pub returns-in-Some : goal.returns-in-Some
returns-in-Some g c = asks_nothing _ _
