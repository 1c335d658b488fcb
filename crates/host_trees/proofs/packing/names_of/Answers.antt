use Rattle.host_trees.proofs.Asking.{tells_nothing, tells_then}
use Rattle.host_trees.proofs.packing.names_of.Goals as goal

pub returns-in_err-entry-items : goal.returns-in_err-entry-items
returns-in_err-entry-items g c = tells_nothing _ _ _

pub loop-entry-init : goal.loop-entry-init
loop-entry-init g c = tells_nothing _ _ _

pub loop-entry-preserved : goal.loop-entry-preserved
loop-entry-preserved g c = tells_then c.loop-entry.invariant c.take_name.ensures

pub returns-in_err-take_name : goal.returns-in_err-take_name
returns-in_err-take_name g c = tells_then c.loop-entry.invariant c.take_name.ensures
