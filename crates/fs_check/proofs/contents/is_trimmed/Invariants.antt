use Rattle.std.proofs.Common.{◌<◌, ℕ}
use Rattle.sector_disk.specs.Disk.{OnlyReads}
use Rattle.fs_check.specs.Checks.{meaning}
use Rattle.fs_check.specs.LastBlocks.{IsCut}
use Rattle.fs_check.specs.Owning.{AreAtHand}
use Rattle.fs_check.proofs.contents.is_trimmed.Given as goal

abbrev pub invariant-loop-level : goal.invariant-loop-level
invariant-loop-level g l = record {
  reads : OnlyReads (g.D.Disk.state l.initial.disk) (g.D.Disk.state l.disk);
  at_hand : AreAtHand (meaning (g.D.Disk.state l.initial.disk)) l.pointers;
  cut : (n : ℕ) → n < l.level → IsCut (meaning (g.D.Disk.state l.initial.disk)) l.inode n;
}
