use Rattle.std.proofs.Common.{sym, ◌∙◌}
use Rattle.std.specs.Prelude.{◌*◌, ◌%◌}
use Rattle.fs_check.proofs.DirectorySlots.{valid_here, not_valid, slot_begins}
use Rattle.fs_check.proofs.slots.slot_in.Goals as goal

pub returns-in-Ok : goal.returns-in-Ok
returns-in-Ok c = λ m v is.
    let version = c.args.version in
    let k = c.args.k in
    let begins = slot_begins version k c.slot_size.result c.block_slots.result c.slot_size.ensures c.block_slots.ensures in
    valid_here version m v k (c.slot_size.result * (k % c.block_slots.result)) c.args.block.now is begins c.in-Ok.slot c.read_in.result
    c.read_in.ensures.first_fault c.in-Ok.is

pub returns-in-Err : goal.returns-in-Err
returns-in-Err c = λ m v is below.
    let version = c.args.version in
    let k = c.args.k in
    let begins = slot_begins version k c.slot_size.result c.block_slots.result c.slot_size.ensures c.block_slots.ensures in
    not_valid version m v k (c.slot_size.result * (k % c.block_slots.result)) c.args.block.now is begins c.read_in.result c.read_in.ensures.first_fault
    (λ x found. let e = sym c.in-Err.is ∙ found in cc) below
