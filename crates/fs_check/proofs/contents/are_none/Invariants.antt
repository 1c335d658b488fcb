use Rattle.std.proofs.Common.{◌≤◌}
use Rattle.fs_layout.specs.Bytes.{SectorMap}
use Rattle.fs_check.specs.LastBlocks.{AreNone}
use Rattle.fs_check.specs.Owning.{AreListed}
use Rattle.fs_check.proofs.contents.are_none.Given as goal

abbrev pub invariant-loop-i : goal.invariant-loop-i
invariant-loop-i l = record {
  from : l.first ≤ l.i;
  none : (m : SectorMap) → AreListed m l.inode l.content l.level l.first l.end → AreNone m l.inode l.level l.first l.i;
}
