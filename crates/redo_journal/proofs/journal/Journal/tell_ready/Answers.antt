use Rattle.std.proofs.Common.{subst}
use Rattle.redo_journal.specs.Meaning.{EachReadsAs, data_of}
use Rattle.redo_journal.proofs.Meaning.{ready_reads}
use Rattle.redo_journal.proofs.journal.Journal.tell_ready.Goals as goal

pub returns : goal.returns
returns g c =
    subst (λ d. EachReadsAs (data_of (g.D.Disk.state d)) (g.D.Disk.state d)) c.self.view_is (ready_reads (g.D.Disk.state c.self.inside.disk) c.self.invariant.0)
