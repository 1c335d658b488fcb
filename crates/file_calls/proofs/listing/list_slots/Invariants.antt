use Rattle.std.proofs.Common.{◌≡◌, ◌∷◌, codes, map, take}
use Rattle.fs_model.specs.Listings.{pairs}
use Rattle.dir_core.specs.Slots.{name_entry}
use Rattle.file_calls.proofs.listing.list_slots.Given as goal

abbrev pub invariant-loop-slot : goal.invariant-loop-slot
invariant-loop-slot l = pairs l.names.items ≡ (codes ".", l.ino) ∷ (codes "..", l.parent) ∷ map name_entry (take l.slot-index l.slots)
