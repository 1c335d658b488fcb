use Rattle.host_trees.proofs.Asking.{asks_then}
use Rattle.host_trees.proofs.unpacking.seen_at.Goals as goal

pub returns-in_err-grants : goal.returns-in_err-grants
returns-in_err-grants g c = asks_then c.status.ensures.reads c.grants_of.ensures

pub returns : goal.returns
returns g c = asks_then c.status.ensures.reads c.grants_of.ensures
