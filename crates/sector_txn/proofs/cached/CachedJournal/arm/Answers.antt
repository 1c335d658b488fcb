use Rattle.sector_txn.proofs.Commits.{still_part, still_last}
use Rattle.sector_txn.proofs.cached.CachedJournal.arm.Goals as goal

pub invariant_of-self : goal.invariant_of-self
invariant_of-self g c =
    let old = g.D.Disk.state c.self.inside.journal in
    let new = g.D.Disk.state c.arm.new.self in
    (still_part old new c.self.inside.clean c.arm.ensures.unchanged c.self.invariant.0, still_last old new _ _ c.arm.ensures.unchanged c.self.invariant.1)
