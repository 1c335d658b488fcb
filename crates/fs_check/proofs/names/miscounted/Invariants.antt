use Rattle.std.proofs.Common.{◌<◌, ℕ, get_or}
use Rattle.fs_model.specs.Rules.{HasNameCount}
use Rattle.fs_layout.specs.Inode.{free_inode}
use Rattle.fs_check.proofs.names.miscounted.Given as goal

abbrev pub invariant-loop-ino : goal.invariant-loop-ino
invariant-loop-ino l = (k : ℕ) → k < l.ino
    → HasNameCount l.geometry.version (get_or l.inodes k free_inode).kind k (get_or l.inodes k free_inode).names (get_or l.names.counts.items k 0)
