use Rattle.std.proofs.Common.{arith, refl, ap}
use Rattle.fs_layout.specs.Header.{log_end}
use Rattle.fs_layout.specs.Inode.{inode_fits}
use Rattle.fs_layout.proofs.UsedInodes.{made_fits}
use Rattle.storage_tests.proofs.tests.inodes.stored.Goals as goal

pub made-requires-clause-fits : goal.made-requires-clause-fits
unfolding inode_fits
made-requires-clause-fits g c = made_fits (λ e. cc) refl (omega arith) (omega arith) (omega arith) (omega arith)

pub first_bytes-requires : goal.first_bytes-requires
first_bytes-requires g c =
    omega (arith, c.in_ok-ino.ensures.sound.bitmaps.disk, c.in_ok-ino.ensures.sound.bitmaps.header, c.in_ok-inode.ensures.same.store.reads.narrowed.size, ap log_end c.in_ok-inode.ensures.same.store.header)
