use Rattle.redo_journal.proofs.Meaning.{idle_next, idle_ready}
use Rattle.redo_journal.proofs.journal.Journal.on.Goals as goal

pub invariant_of-result : goal.invariant_of-result
invariant_of-result g c = (idle_ready (g.D.Disk.state c.args.disk) c.requires.idle, c.requires.header, idle_next (g.D.Disk.state c.args.disk) c.requires.idle)
