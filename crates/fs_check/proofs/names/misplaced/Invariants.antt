use Rattle.std.proofs.Common.{◌<◌, ℕ, get_or}
use Rattle.fs_layout.specs.Inode.{free_inode}
use Rattle.fs_check.proofs.Namings.{IsPlaced}
use Rattle.fs_check.proofs.names.misplaced.Given as goal

abbrev pub invariant-loop-ino : goal.invariant-loop-ino
invariant-loop-ino l = (k : ℕ) → k < l.ino → IsPlaced l.names.directories.items k (get_or l.inodes k free_inode)
