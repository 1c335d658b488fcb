use Rattle.host_trees.proofs.Asking.{asks_nothing, asks_one, asks_then}
use Rattle.host_trees.proofs.writing.write_pieces.Goals as goal

pub loop-piece-init : goal.loop-piece-init
loop-piece-init g c = asks_nothing _ _

pub loop-piece-preserved : goal.loop-piece-preserved
loop-piece-preserved g c = asks_then c.loop-piece.invariant (asks_one c.perform.ensures tt)

pub returns-in_err-perform : goal.returns-in_err-perform
returns-in_err-perform g c = asks_then c.loop-piece.invariant (asks_one c.perform.ensures tt)
