use Rattle.std.proofs.Common.{true}
use Rattle.host_trees.proofs.Asking.{asks_nothing, not_packed, not_whole}
use Rattle.host_trees.proofs.packing.pack.Goals as goal

pub returns-in-Err-clause-copies : goal.returns-in-Err-clause-copies
returns-in-Err-clause-copies g c = not_packed c.in-Err.fault (asks_nothing c.args.machine true)

pub returns-in-Err-clause-silent : goal.returns-in-Err-clause-silent
returns-in-Err-clause-silent g c = not_whole
