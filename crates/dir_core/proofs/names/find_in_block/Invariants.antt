use Rattle.std.proofs.Common.{◌≢◌, ℕ, ◌*◌, ◌<◌}
use Rattle.fs_layout.specs.Version.{slot_size}
use Rattle.fs_layout.specs.Directories.{NamedInode}
use Rattle.dir_core.specs.Slots.{IsSlotAt}
use Rattle.dir_core.proofs.names.find_in_block.Given as goal

abbrev pub invariant-loop-slot : goal.invariant-loop-slot
invariant-loop-slot l = (i : ℕ) (x : NamedInode) → i < l.slot → IsSlotAt l.version l.block (slot_size l.version * i) x → x.name ≢ l.name
