use Rattle.std.proofs.Common.{subst}
use Rattle.sector_disk.specs.Disk.{ForgetsPast}
use Rattle.redo_journal.proofs.Meaning.{ready_stays, has_stays, next_stays}
use Rattle.redo_journal.proofs.journal.Journal.forget.Goals as goal

pub invariant_of-self : goal.invariant_of-self
invariant_of-self g c = let same = c.forget.ensures.same.narrowed in (ready_stays _ _ same c.self.invariant.0, has_stays _ _ _ same c.self.invariant.1, next_stays _ _ _ same c.self.invariant.2)

pub returns : goal.returns
returns g c = subst (λ d. ForgetsPast (g.D.Disk.state d) (g.D.Disk.state c.forget.new.self)) c.self.view_is c.forget.ensures
