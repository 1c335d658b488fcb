use Rattle.std.proofs.Common.{◌≡◌, ◌+◌, ◌<◌, ◌≤◌, ℕ, length, get_or}
use Rattle.fs_layout.specs.declared.inode.TheConstants.{SECTOR_POINTERS}
use Rattle.fs_layout.specs.Images.{number_on}
use Rattle.block_map.proofs.release.give_listed.Given as goal

abbrev pub invariant-loop-i : goal.invariant-loop-i
invariant-loop-i g l = record {
  most : l.i ≤ l.count;
  long : length l.numbers ≡ SECTOR_POINTERS;
  each : (j : ℕ) → j < l.i → get_or l.numbers j 0 ≡ number_on (g.S.Sectors.state l.fn.s).sectors l.inode l.level (l.first + j);
}
