use Rattle.std.proofs.Common.{take}
use Rattle.fs_check.specs.Naming.{AddsSlots}
use Rattle.fs_check.proofs.directories.add_slots.Given as goal

abbrev pub invariant-loop-slot : goal.invariant-loop-slot
invariant-loop-slot l = AddsSlots l.dir_ino (take l.slot-index l.slots) l.initial.counts l.initial.directories l.counts l.directories
