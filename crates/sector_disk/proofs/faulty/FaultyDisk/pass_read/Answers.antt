use Rattle.std.proofs.Common.{◌∙◌}
use Rattle.sector_disk.proofs.Passing.{passes, quiet, read_failed, reads_fit}
use Rattle.sector_disk.proofs.faulty.FaultyDisk.pass_read.Goals as goal

pub overflow_add-self : goal.overflow_add-self
overflow_add-self g c =
    let few = c.if-failures-eq18446744073709551615.false in
    reads_fit g.D.Disk.state (c.self.view_is ∙ c.is_due.ensures) c.failures.ensures few

pub returns-then-is_due-clause-quiet : goal.returns-then-is_due-clause-quiet
returns-then-is_due-clause-quiet g c = quiet (c.self.view_is ∙ c.is_due.ensures)

pub returns-then-is_due-clause-cause : goal.returns-then-is_due-clause-cause
returns-then-is_due-clause-cause g c = read_failed g.D.Disk.state (c.self.view_is ∙ c.is_due.ensures)

pub returns-clause-quiet : goal.returns-clause-quiet
returns-clause-quiet g c = quiet c.is_due.ensures

pub returns-clause-cause : goal.returns-clause-cause
returns-clause-cause g c = passes g.D.Disk.state c.is_due.ensures
