use Rattle.std.proofs.Common.{◌+◌, get_or, set, take, sym, ap, subst, arith, ◌∙◌}
use Rattle.fs_layout.specs.Directories.{NamedInode}
use Rattle.fs_check.specs.Naming.{AddsSlots}
use Rattle.fs_check.proofs.Tallies.{add_one}
use Rattle.fs_check.proofs.directories.add_slots.Goals as goal

pub loop-slot-preserved : goal.loop-slot-preserved
loop-slot-preserved c =
    let k = c.loop-slot.slot-index in
    let slots = c.args.slots.now in
    let x = c.slot-item.result in
    let lt = c.loop-slot-test.true in
    let who = sym (ap (λ (y : NamedInode). y.ino) c.slot-item.is) ∙ sym c.ino.ensures in
    let low = c.requires.counts k x lt in
    let wide = c.requires.directories k x lt in
    let same = c.loop-slot.invariant.counts_len in
    let also = c.loop-slot.invariant.directories_len in
    let one = add_one c.args.dir_ino slots k c.ino.result x c.args.counts.now c.args.directories.now c.loop-slot.counts c.loop-slot.directories lt who
    (omega (arith, low, who, same)) (omega (arith, wide, who, also)) c.loop-slot.invariant in
    subst (λ l. AddsSlots c.args.dir_ino (take (k + 1) slots) c.args.counts.now c.args.directories.now l c.add_name.new.directories) (sym c.add_name.ensures.counts)
    (subst (λ l. AddsSlots c.args.dir_ino (take (k + 1) slots) c.args.counts.now c.args.directories.now
    (set c.loop-slot.counts c.ino.result (get_or c.loop-slot.counts c.ino.result 0 + 1)) l) (sym c.add_name.ensures.directories) one)
