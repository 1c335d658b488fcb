use Rattle.std.proofs.Common.{ap, sym, ◌∙◌}
use Rattle.open_files.proofs.OpenSlots.{found_in, found_nowhere}
use Rattle.open_files.proofs.procs.is_in.Goals as goal

pub returns-in-loop-slot : goal.returns-in-loop-slot
returns-in-loop-slot c =
    found_in c.args.slots.now c.loop-slot.slot-index c.slot-item.result c.in-Some.descriptor c.args.ino c.loop-slot-test.true c.slot-item.is
    c.in-Some.is (ap (λ d. d.ino) (sym c.descriptor.view_is) ∙ c.if-descriptor-ino.true)

pub returns : goal.returns
returns c = found_nowhere c.args.slots.now c.loop-slot.slot-index c.args.ino c.loop-slot-test.false c.loop-slot.invariant
