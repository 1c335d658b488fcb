use Rattle.host_trees.proofs.Asking.{asks_nothing, asks_then}
use Rattle.host_trees.proofs.writing.read_contents.Goals as goal

pub loop-init : goal.loop-init
loop-init g c = asks_nothing _ _

pub loop-preserved : goal.loop-preserved
loop-preserved g c = asks_then c.loop.invariant c.copy_piece.ensures

pub returns-in_err-copy_piece : goal.returns-in_err-copy_piece
returns-in_err-copy_piece g c = asks_then c.loop.invariant c.copy_piece.ensures

pub returns-then-not-branch : goal.returns-then-not-branch
returns-then-not-branch g c = asks_then c.loop.invariant c.copy_piece.ensures
