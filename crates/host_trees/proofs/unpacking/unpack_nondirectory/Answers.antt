use Rattle.host_trees.proofs.Asking.{asks_nothing}
use Rattle.host_trees.proofs.unpacking.unpack_nondirectory.Goals as goal

pub returns-in-Some : goal.returns-in-Some
returns-in-Some g c = asks_nothing _ _

pub returns-in_err-hard_link : goal.returns-in_err-hard_link
returns-in_err-hard_link g c = asks_nothing _ _
