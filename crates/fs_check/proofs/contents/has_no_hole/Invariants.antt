use Rattle.std.proofs.Common.{◌≢◌, ◌<◌, ℕ}
use Rattle.fs_layout.specs.Images.{pointer}
use Rattle.sector_disk.specs.Disk.{OnlyReads}
use Rattle.fs_check.specs.Checks.{meaning}
use Rattle.fs_check.specs.Owning.{AreAtHand}
use Rattle.fs_check.proofs.contents.has_no_hole.Given as goal

abbrev pub invariant-loop-k : goal.invariant-loop-k
invariant-loop-k g l = record {
  reads : OnlyReads (g.D.Disk.state l.initial.disk) (g.D.Disk.state l.disk);
  at_hand : AreAtHand (meaning (g.D.Disk.state l.initial.disk)) l.pointers;
  some : (j : ℕ) → j < l.k → pointer (meaning (g.D.Disk.state l.initial.disk)) l.inode j ≢ 0;
}
