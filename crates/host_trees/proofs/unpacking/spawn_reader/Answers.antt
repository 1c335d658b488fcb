use Rattle.host_trees.proofs.Asking.{asks_nothing, asks_one}
use Rattle.host_trees.proofs.unpacking.spawn_reader.Goals as goal

pub returns-in_err-cred : goal.returns-in_err-cred
returns-in_err-cred g c = asks_nothing _ _

pub returns-in_err-obtain : goal.returns-in_err-obtain
returns-in_err-obtain g c = asks_one c.obtain.ensures tt

pub returns : goal.returns
returns g c = asks_one c.obtain.ensures tt
