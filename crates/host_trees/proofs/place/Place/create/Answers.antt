use Rattle.host_trees.proofs.Asking.{asks_nothing, asks_one}
use Rattle.host_trees.proofs.place.Place.create.Goals as goal

pub returns-in_err-path : goal.returns-in_err-path
returns-in_err-path g c = asks_nothing _ _

pub returns-in_err-call : goal.returns-in_err-call
returns-in_err-call g c = asks_one c.call.ensures (c.new_file_flags.ensures.create, c.new_file_flags.ensures.excl, c.new_file_flags.ensures.trunc)

pub returns : goal.returns
returns g c = asks_one c.call.ensures (c.new_file_flags.ensures.create, c.new_file_flags.ensures.excl, c.new_file_flags.ensures.trunc)
