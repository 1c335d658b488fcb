use Rattle.host_trees.proofs.Asking.{asks_nothing, asks_one, asks_then}
use Rattle.host_trees.proofs.work.spawn_for.Goals as goal

pub returns-in_err-obtain : goal.returns-in_err-obtain
returns-in_err-obtain g c = asks_one c.obtain.ensures tt

pub returns-in_err-pid : goal.returns-in_err-pid
returns-in_err-pid g c = asks_one c.obtain.ensures tt

pub returns-in_err-cred : goal.returns-in_err-cred
returns-in_err-cred g c = asks_nothing _ _

pub returns-in_err-perform : goal.returns-in_err-perform
returns-in_err-perform g c = asks_then (asks_one c.obtain.ensures tt) (asks_one c.perform.ensures tt)

pub returns : goal.returns
returns g c = asks_then (asks_one c.obtain.ensures tt) (asks_one c.perform.ensures tt)
