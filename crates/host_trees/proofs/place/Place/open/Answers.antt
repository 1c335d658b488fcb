use Rattle.host_trees.proofs.Asking.{asks_nothing, asks_one}
use Rattle.host_trees.proofs.place.Place.open.Goals as goal

pub returns-in_err-path : goal.returns-in_err-path
returns-in_err-path g c = asks_nothing _ _

pub returns-in_err-call : goal.returns-in_err-call
returns-in_err-call g c = asks_one c.call.ensures (c.flags.ensures.create, c.flags.ensures.trunc, c.flags.ensures.write)

pub returns : goal.returns
returns g c = asks_one c.call.ensures (c.flags.ensures.create, c.flags.ensures.trunc, c.flags.ensures.write)
