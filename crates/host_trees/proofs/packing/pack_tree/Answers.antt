use Rattle.host_trees.proofs.Asking.{asks_then, not_packed, not_whole, packed_so, silent_so, tells_then}
use Rattle.host_trees.proofs.packing.pack_tree.Goals as goal

pub returns-in-Ok-clause-copies : goal.returns-in-Ok-clause-copies
returns-in-Ok-clause-copies g c =
    let all = tells_then c.pack_directories.ensures c.finish_directories.ensures in
    packed_so c.copied-copied.result _ c.copied-copied.ensures all.asks c.in-Ok.ensures.stable

pub returns-in-Ok-clause-silent : goal.returns-in-Ok-clause-silent
returns-in-Ok-clause-silent g c =
    silent_so c.copied-copied.result _ c.copied-copied.ensures (tells_then c.pack_directories.ensures c.finish_directories.ensures)

pub returns-in-Err-clause-copies : goal.returns-in-Err-clause-copies
returns-in-Err-clause-copies g c =
    let all = tells_then c.pack_directories.ensures c.finish_directories.ensures in
    not_packed c.in-Err.fault (asks_then all.asks c.sync.ensures.asked)

pub returns-in-Err-clause-silent : goal.returns-in-Err-clause-silent
returns-in-Err-clause-silent g c = not_whole
