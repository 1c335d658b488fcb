use Rattle.host_trees.proofs.Asking.{asks_nothing, asks_one, asks_then, asks_three}
use Rattle.host_trees.proofs.objects.pack_link.Goals as goal

pub returns-in_err-target : goal.returns-in_err-target
returns-in_err-target g c = asks_nothing _ _

pub returns-in_err-perform : goal.returns-in_err-perform
returns-in_err-perform g c = asks_then c.hand_for.ensures (asks_one c.perform.ensures tt)

pub returns : goal.returns
returns g c = asks_three c.hand_for.ensures (asks_one c.perform.ensures tt) c.stamp_at.ensures
