use Rattle.host_trees.proofs.Asking.{asks_one}
use Rattle.host_trees.proofs.writing.read_piece.Goals as goal

pub returns-in_err-call : goal.returns-in_err-call
returns-in_err-call g c = asks_one c.call.ensures tt

pub returns : goal.returns
returns g c = asks_one c.call.ensures tt
