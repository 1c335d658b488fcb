use Rattle.std.proofs.Common.{rules}
use Rattle.redo_journal.proofs.Meaning.{ready_reads}
use Rattle.redo_journal.proofs.journal.Journal.into_disk.Goals as goal

pub returns-clause-disk : goal.returns-clause-disk
returns-clause-disk g c = search rules

pub returns-clause-ready : goal.returns-clause-ready
returns-clause-ready g c = ready_reads (g.D.Disk.state c.self.inside.disk) c.self.invariant.0
