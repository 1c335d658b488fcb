use Rattle.host_trees.proofs.Asking.{asks_then}
use Rattle.host_trees.proofs.work.change_hand.Goals as goal

pub returns-in_err-pid : goal.returns-in_err-pid
returns-in_err-pid g c = asks_then c.end_hand.ensures c.spawn_for.ensures

pub returns : goal.returns
returns g c = asks_then c.end_hand.ensures c.spawn_for.ensures
