use Rattle.std.proofs.Common.{◌∙◌}
use Rattle.sector_disk.proofs.Passing.{passes, passes_told, write_failed, write_told, writes_fit}
use Rattle.sector_disk.proofs.faulty.FaultyDisk.pass_write.Goals as goal

pub overflow_add-self : goal.overflow_add-self
overflow_add-self g c =
    let few = c.if-failures-eq18446744073709551615.false in
    writes_fit g.D.Disk.state (c.self.view_is ∙ c.is_due.ensures) c.failures.ensures few

pub returns-then-is_due-clause-cause : goal.returns-then-is_due-clause-cause
returns-then-is_due-clause-cause g c = write_failed g.D.Disk.state (c.self.view_is ∙ c.is_due.ensures)

pub returns-then-is_due-clause-told : goal.returns-then-is_due-clause-told
returns-then-is_due-clause-told g c = write_told g.D.Disk.state (c.self.view_is ∙ c.is_due.ensures)

pub returns-clause-cause : goal.returns-clause-cause
returns-clause-cause g c = passes g.D.Disk.state c.is_due.ensures

pub returns-clause-told : goal.returns-clause-told
returns-clause-told g c = passes_told g.D.Disk.state c.is_due.ensures
