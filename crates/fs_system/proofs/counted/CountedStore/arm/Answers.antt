use Rattle.fs_system.proofs.Remembered.{knows_store}
use Rattle.fs_system.proofs.counted.CountedStore.arm.Goals as goal

pub invariant_of-self : goal.invariant_of-self
invariant_of-self g c = knows_store g.D.Disk.state c.self.inside.store c.arm.new.self c.arm.ensures.unchanged.narrowed.size c.arm.ensures.map c.self.invariant
