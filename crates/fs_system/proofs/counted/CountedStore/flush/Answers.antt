use Rattle.fs_system.proofs.Remembered.{knows_store}
use Rattle.fs_system.proofs.counted.CountedStore.flush.Goals as goal

pub invariant_of-result : goal.invariant_of-result
invariant_of-result g c = knows_store g.D.Disk.state c.self.inside.store c.in-Ok.store c.in-Ok.ensures.images.size c.in-Ok.ensures.map c.self.invariant

pub returns-in-Ok : goal.returns-in-Ok
returns-in-Ok g c =
    let flushed = c.in-Ok.ensures in
    rw (← c.self.view_is) (record {
      map = flushed.map;
      images = flushed.images;
      lasting = flushed.lasting;
      cause = record { later = flushed.cause.later; fault = tt };
      told = record { later = flushed.told.later; fault = tt; quiet = flushed.told.quiet };
    })

pub returns-in-Err : goal.returns-in-Err
returns-in-Err g c =
    let broke = c.in-Err.ensures in
    rw (← c.self.view_is) (record {
      map = tt;
      images = broke.images;
      lasting = tt;
      cause = record { later = broke.cause.later; fault = broke.cause.fault };
      told = record { later = broke.told.later; fault = broke.told.fault; quiet = tt };
    })
