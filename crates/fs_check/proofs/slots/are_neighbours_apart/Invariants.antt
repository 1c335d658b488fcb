use Rattle.std.proofs.Common.{◌≢◌, ◌<◌, ◌+◌, ℕ, get_or}
use Rattle.fs_layout.specs.Directories.{NamedInode}
use Rattle.fs_check.proofs.slots.are_neighbours_apart.Given as goal

abbrev pub invariant-loop-k : goal.invariant-loop-k
invariant-loop-k l = (j : ℕ) (d : NamedInode) → j + 1 < l.k → (get_or l.slots j d).name ≢ (get_or l.slots (j + 1) d).name
