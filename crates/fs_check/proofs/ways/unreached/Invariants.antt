use Rattle.std.proofs.Common.{◌≡◌, ◌<◌, ◌≤◌, ℕ, length, get_or}
use Rattle.fs_layout.specs.declared.inode.Kind.TheVariants as kinds
use Rattle.fs_layout.specs.Inode.{free_inode}
use Rattle.fs_check.specs.Ways.{Climbs, AllClimb}
use Rattle.fs_check.proofs.ways.unreached.Given as goal

abbrev pub invariant-loop-dir_ino : goal.invariant-loop-dir_ino
invariant-loop-dir_ino l = record {
  len : length l.marks.items ≡ length l.inodes;
  earlier : (n : ℕ) → get_or l.marks.items n 0 < l.dir_ino;
  climb : AllClimb l.inodes l.marks.items;
  so_far : (k : ℕ) → 1 ≤ k → k < l.dir_ino → (get_or l.inodes k free_inode).kind ≡ kinds.Directory → Climbs l.inodes k;
}
