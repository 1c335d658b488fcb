use Rattle.host_trees.proofs.Asking.{not_unpacked, not_whole, silent_so, unpacked_so}
use Rattle.host_trees.proofs.unpacking.unpack_tree.Goals as goal

pub returns-in-Ok-clause-copies : goal.returns-in-Ok-clause-copies
returns-in-Ok-clause-copies g c = unpacked_so c.copied.result _ c.copied.ensures c.unpack_all.ensures.asks

pub returns-in-Ok-clause-silent : goal.returns-in-Ok-clause-silent
returns-in-Ok-clause-silent g c = silent_so c.copied.result _ c.copied.ensures c.unpack_all.ensures

pub returns-in-Err-clause-copies : goal.returns-in-Err-clause-copies
returns-in-Err-clause-copies g c = not_unpacked c.in-Err.fault c.unpack_all.ensures.asks

pub returns-in-Err-clause-silent : goal.returns-in-Err-clause-silent
returns-in-Err-clause-silent g c = not_whole
