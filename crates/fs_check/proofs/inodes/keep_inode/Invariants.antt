use Rattle.std.proofs.Common.{◌≡◌, ℕ, length, get_or}
use Rattle.std.specs.Prelude.{vec_capacity}
use Rattle.fs_layout.specs.Inode.{free_inode}
use Rattle.fs_check.proofs.inodes.keep_inode.Given as goal

abbrev pub invariant-loop-k : goal.invariant-loop-k
invariant-loop-k l = record {
  len : length l.inodes.items ≡ l._k;
  same : (i : ℕ) → get_or l.inodes.items i free_inode ≡ get_or l.fn.inodes.items i free_inode;
  room : vec_capacity l.inodes ≡ vec_capacity l.fn.inodes;
}
