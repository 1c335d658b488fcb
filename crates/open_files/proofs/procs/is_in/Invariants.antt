use Rattle.std.proofs.Common.{◌≡◌, ◌==◌, false, take}
use Rattle.std.specs.List.{list_any}
use Rattle.open_files.proofs.Slots.{holds}
use Rattle.open_files.proofs.procs.is_in.Given as goal

-- the inode is open in none of the slots so far
abbrev pub invariant-loop-slot : goal.invariant-loop-slot
invariant-loop-slot l = list_any (holds (λ d. d.ino == l.ino)) (take l.slot-index l.slots) ≡ false
