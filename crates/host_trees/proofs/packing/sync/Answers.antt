use Rattle.host_trees.proofs.Asking.{asks_synced, asks_unsynced}
use Rattle.host_trees.proofs.packing.sync.Goals as goal

pub returns-in-Done-clause-asked : goal.returns-in-Done-clause-asked
returns-in-Done-clause-asked g c = asks_synced _ (rw (← c.in-Done.is) c.serve-reply.ensures)

pub returns-in-Done-clause-stable : goal.returns-in-Done-clause-stable
returns-in-Done-clause-stable g c = rw (← c.in-Done.is) c.serve-reply.ensures

pub returns-clause-asked : goal.returns-clause-asked
returns-clause-asked g c = asks_unsynced c.serve-reply.result c.serve-reply.ensures c.lacks.ensures.machine c.lacks.ensures.lacking
