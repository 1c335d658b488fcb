use Rattle.std.proofs.Common.{◌<◌, ℕ, get_or}
use Rattle.fs_layout.specs.Directories.{NamedInode}
use Rattle.fs_check.specs.Naming.{IsUsable}
use Rattle.fs_check.proofs.slots.are_usable.Given as goal

abbrev pub invariant-loop-slot : goal.invariant-loop-slot
invariant-loop-slot l = (k : ℕ) (d : NamedInode) → k < l.slot-index → IsUsable l.inodes (get_or l.slots k d)
