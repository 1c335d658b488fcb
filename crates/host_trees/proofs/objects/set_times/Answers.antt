use Rattle.host_trees.proofs.Asking.{asks_one}
use Rattle.host_trees.proofs.objects.set_times.Goals as goal

pub returns-in_err-obtain : goal.returns-in_err-obtain
returns-in_err-obtain g c = asks_one c.obtain.ensures tt

pub returns : goal.returns
returns g c = asks_one c.obtain.ensures tt
