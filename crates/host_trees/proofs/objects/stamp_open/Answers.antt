use Rattle.host_trees.proofs.Asking.{asks_one, asks_then}
use Rattle.host_trees.proofs.objects.stamp_open.Goals as goal

pub returns-in_err-call : goal.returns-in_err-call
returns-in_err-call g c = asks_one c.call.ensures tt

pub returns-in_err-status : goal.returns-in_err-status
returns-in_err-status g c = asks_one c.call.ensures tt

pub returns : goal.returns
returns g c = asks_then (asks_one c.call.ensures tt) c.stamp.ensures
