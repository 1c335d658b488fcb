use Rattle.std.proofs.Common.{◌≡◌, ℕ, ◌<◌, ◌*◌, length, sym, ap, ◌∙◌, arith, rules}
use Rattle.std.proofs.lemmas.List.{length-set}
use Rattle.fs_layout.specs.Directories.{FitsSlot}
use Rattle.dir_core.proofs.Changing.{slot_below, slot_has_block, slot_placed, slot_written, added, written, length-written}
use Rattle.dir_core.proofs.NamesAfter.{fits_set}
use Rattle.dir_core.proofs.SlotPlaces.{as_many}
use Rattle.dir_core.proofs.Taking.{size_of_slots}
use Rattle.dir_core.proofs.names.set_slot.Goals as goal

pub overflow_mul-at : goal.overflow_mul-at
overflow_mul-at g c = omega (arith, slot_below c.requires.directory.1 c.args.slot c.requires.directory.2 c.slot_size-slot_size.ensures)

pub overwrite-requires-clause-inside : goal.overwrite-requires-clause-inside
overwrite-requires-clause-inside g c =
    (slot_placed c.requires.directory.1 c.args.slot c.requires.directory.2 c.slot_size-slot_size.ensures (length-written c.args.geometry.version (added c.args.name.now c.args.to) _ _
    c.slot_size-slot_size.ensures c.block_with-block.ensures c.requires.short)).0

pub overwrite-requires-clause-one_block : goal.overwrite-requires-clause-one_block
overwrite-requires-clause-one_block g c =
    (slot_placed c.requires.directory.1 c.args.slot c.requires.directory.2 c.slot_size-slot_size.ensures (length-written c.args.geometry.version (added c.args.name.now c.args.to) _ _
    c.slot_size-slot_size.ensures c.block_with-block.ensures c.requires.short)).1

pub overwrite-requires-clause-no_hole : goal.overwrite-requires-clause-no_hole
overwrite-requires-clause-no_hole g c =
    slot_has_block c.requires.directory.1 c.args.slot c.requires.directory.2 (ap (λ (w : ℕ). c.args.slot * w) c.slot_size-slot_size.ensures)

pub returns-clause-change : goal.returns-clause-change
returns-clause-change g c = c.in_ok-overwrite.ensures.change

pub returns-clause-slots : goal.returns-clause-slots
returns-clause-slots g c = λ slots h apart.
    let version = c.args.geometry.version in
    let bytes =
    written version (added c.args.name.now c.args.to) c.slot_size-slot_size.result c.block_with-block.result
    c.slot_size-slot_size.ensures c.block_with-block.ensures in
    let here = c.requires.directory.1 in
    let count : length slots ≡ length c.requires.directory.0 =
    as_many version (length slots) (length c.requires.directory.0) (sym (size_of_slots h) ∙ size_of_slots here) in
    let few : c.args.slot < length slots = omega (arith, count, c.requires.directory.2) in
    let fit : FitsSlot version (added c.args.name.now c.args.to) =
    record {
      ino = let f = c.ranges.to.fits in omega (arith, f);
      name = c.requires.name;
      short = c.requires.short;
      bytes = λ i. let f = c.type_inv.name i in search rules;
    } in
    record {
      kind = h.kind;
      apart = apart;
      each = fits_set slots c.args.slot (added c.args.name.now c.args.to) few h.each fit;
      few = let most = h.few in omega (arith, most, length-set slots c.args.slot (added c.args.name.now c.args.to));
      holds = slot_written h c.args.slot few fit (ap (λ (w : ℕ). c.args.slot * w) c.slot_size-slot_size.ensures) bytes c.in_ok-overwrite.ensures.held;
      whole = c.in_ok-overwrite.ensures.whole h.whole;
    }
