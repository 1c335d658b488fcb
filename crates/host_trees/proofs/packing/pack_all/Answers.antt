use Rattle.host_trees.proofs.Asking.{copies_along}
use Rattle.host_trees.proofs.packing.pack_all.Goals as goal

pub returns-clause-copies : goal.returns-clause-copies
returns-clause-copies g c = copies_along c.new-asker.ensures.machine c.into_machine.ensures c.pack_tree-packed.ensures.copies

pub returns-clause-silent : goal.returns-clause-silent
returns-clause-silent g c = c.pack_tree-packed.ensures.silent
