use Rattle.fs_system.proofs.Remembered.{knows_store}
use Rattle.fs_system.proofs.counted.CountedStore.forget.Goals as goal

pub invariant_of-self : goal.invariant_of-self
invariant_of-self g c = knows_store g.D.Disk.state c.self.inside.store c.forget.new.self c.forget.ensures.past.same.narrowed.size c.forget.ensures.map c.self.invariant
