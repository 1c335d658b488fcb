use Rattle.host_trees.proofs.Asking.{asks_nothing, asks_then}
use Rattle.host_trees.proofs.lists.grants_of.Goals as goal

pub returns-in-Link : goal.returns-in-Link
returns-in-Link g c = asks_nothing _ _

pub returns-in_err-for_new : goal.returns-in_err-for_new
returns-in_err-for_new g c = asks_then c.list.ensures c.list-2.ensures

pub returns : goal.returns
returns g c = asks_then c.list.ensures c.list-2.ensures
