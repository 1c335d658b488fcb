use Rattle.host_trees.proofs.Asking.{asks_nothing, asks_one}
use Rattle.host_trees.proofs.place.Place.status.Goals as goal

pub returns-in_err-path-clause-reads : goal.returns-in_err-path-clause-reads
returns-in_err-path-clause-reads g c = asks_nothing _ _

pub returns-in_err-path-clause-makes : goal.returns-in_err-path-clause-makes
returns-in_err-path-clause-makes g c = asks_nothing _ _

pub returns-in_err-call-clause-reads : goal.returns-in_err-call-clause-reads
returns-in_err-call-clause-reads g c = asks_one c.call.ensures tt

pub returns-in_err-call-clause-makes : goal.returns-in_err-call-clause-makes
returns-in_err-call-clause-makes g c = asks_one c.call.ensures tt

pub returns-clause-reads : goal.returns-clause-reads
returns-clause-reads g c = asks_one c.call.ensures tt

pub returns-clause-makes : goal.returns-clause-makes
returns-clause-makes g c = asks_one c.call.ensures tt
