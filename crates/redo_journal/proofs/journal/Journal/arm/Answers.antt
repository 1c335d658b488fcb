use Rattle.std.proofs.Common.{◌∙◌, ap, subst}
use Rattle.sector_disk.specs.Disk.{Elapses, IsSame}
use Rattle.redo_journal.proofs.Meaning.{ready_stays, has_stays, next_stays}
use Rattle.redo_journal.proofs.journal.Journal.arm.Goals as goal

pub invariant_of-self : goal.invariant_of-self
invariant_of-self g c = let same = c.arm.ensures.same.narrowed in (ready_stays _ _ same c.self.invariant.0, has_stays _ _ _ same c.self.invariant.1, next_stays _ _ _ same c.self.invariant.2)

pub returns-clause-unchanged : goal.returns-clause-unchanged
returns-clause-unchanged g c = subst (λ d. IsSame (g.D.Disk.state d) (g.D.Disk.state c.arm.new.self)) c.self.view_is c.arm.ensures.same

pub returns-clause-time : goal.returns-clause-time
returns-clause-time g c = subst (λ d. Elapses (g.D.Disk.state d) (g.D.Disk.state c.arm.new.self)) c.self.view_is c.arm.ensures.time

pub returns-clause-failures : goal.returns-clause-failures
returns-clause-failures g c = c.arm.ensures.failures ∙ ap (λ d. (g.D.Disk.state d).failures) c.self.view_is

pub returns-clause-failed_writes : goal.returns-clause-failed_writes
returns-clause-failed_writes g c = c.arm.ensures.failed_writes ∙ ap (λ d. (g.D.Disk.state d).failed_writes) c.self.view_is
