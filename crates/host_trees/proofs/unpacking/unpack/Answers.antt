use Rattle.host_trees.proofs.Asking.{copies_along}
use Rattle.host_trees.proofs.unpacking.unpack.Goals as goal

pub returns-clause-copies : goal.returns-clause-copies
returns-clause-copies g c = copies_along c.new-asker.ensures.machine c.into_machine.ensures c.unpack_tree-unpacked.ensures.copies

pub returns-clause-silent : goal.returns-clause-silent
returns-clause-silent g c = c.unpack_tree-unpacked.ensures.silent
