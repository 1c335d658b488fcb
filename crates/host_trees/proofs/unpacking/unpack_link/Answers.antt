use Rattle.host_trees.proofs.Asking.{asks_nothing, asks_one}
use Rattle.host_trees.proofs.unpacking.unpack_link.Goals as goal

pub returns-in_err-path : goal.returns-in_err-path
returns-in_err-path g c = asks_nothing _ _

pub returns-in_err-call : goal.returns-in_err-call
returns-in_err-call g c = asks_one c.call.ensures tt

pub returns-in_err-target : goal.returns-in_err-target
returns-in_err-target g c = asks_one c.call.ensures tt

pub returns : goal.returns
returns g c = asks_one c.call.ensures tt
