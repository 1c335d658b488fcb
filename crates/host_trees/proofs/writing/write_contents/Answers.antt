use Rattle.host_trees.proofs.Asking.{asks_nothing, asks_then}
use Rattle.host_trees.proofs.writing.write_contents.Goals as goal

pub loop-init : goal.loop-init
loop-init g c = asks_nothing _ _

pub loop-preserved : goal.loop-preserved
loop-preserved g c = asks_then c.loop.invariant c.write_pieces.ensures

pub returns-in_err-write_pieces : goal.returns-in_err-write_pieces
returns-in_err-write_pieces g c = asks_then c.loop.invariant c.write_pieces.ensures
