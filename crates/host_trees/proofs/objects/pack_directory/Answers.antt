use Rattle.host_trees.proofs.Asking.{asks_one, asks_then, asks_three}
use Rattle.host_trees.proofs.objects.pack_directory.Goals as goal

pub returns-in_err-perform : goal.returns-in_err-perform
returns-in_err-perform g c = asks_then c.hand_for.ensures (asks_one c.perform.ensures tt)

pub returns-in_err-status : goal.returns-in_err-status
returns-in_err-status g c = asks_three c.hand_for.ensures (asks_one c.perform.ensures tt) c.status.ensures.makes

pub returns : goal.returns
returns g c = asks_three c.hand_for.ensures (asks_one c.perform.ensures tt) c.status.ensures.makes
