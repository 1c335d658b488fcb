use Rattle.sector_txn.proofs.Commits.{still_room, still_waiting}
use Rattle.sector_txn.proofs.store.Store.arm.Goals as goal

pub invariant_of-self : goal.invariant_of-self
invariant_of-self g c =
    let old = g.D.Disk.state c.self.inside.journal in
    let new = g.D.Disk.state c.arm.new.self in
    (c.self.invariant.0, still_waiting old new _ _ c.arm.ensures.unchanged c.self.invariant.1, still_room old new _ c.arm.ensures.unchanged c.self.invariant.2)
