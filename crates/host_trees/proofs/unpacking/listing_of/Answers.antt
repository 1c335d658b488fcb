use Rattle.host_trees.proofs.Asking.{asks_one, asks_three}
use Rattle.host_trees.proofs.unpacking.listing_of.Goals as goal

pub returns-in-Ok : goal.returns-in-Ok
returns-in-Ok g c = asks_three c.open.ensures (asks_one c.call-listed.ensures tt) (asks_one c.perform-closed.ensures tt)

pub returns-in-Err : goal.returns-in-Err
returns-in-Err g c = asks_three c.open.ensures (asks_one c.call-listed.ensures tt) (asks_one c.perform-closed.ensures tt)
