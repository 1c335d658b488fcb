use Rattle.std.proofs.Common.{List, ◌∷◌, map, ap, codes, ◌∙◌}
use Rattle.std.proofs.lemmas.List.{take_all}
use Rattle.fs_layout.specs.Directories.{NamedInode}
use Rattle.dir_core.specs.Slots.{name_entry}
use Rattle.fs_model.specs.Listings.{pairs}
use Rattle.file_calls.proofs.Listed.{listing_begun, listing_grown}
use Rattle.file_calls.proofs.listing.list_slots.Goals as goal

pub loop-slot-init : goal.loop-slot-init
loop-slot-init c =
    listing_begun (pairs c.in-Ok.names.items) (pairs c.push_name.new.names.items) (pairs c.push_name-2.new.names.items) (codes ".", c.args.ino) (codes "..", c.args.parent)
    (ap pairs c.in-Ok.ensures.items) c.in_ok-push_name.ensures.added c.in_ok-push_name-2.ensures.added

pub loop-slot-preserved : goal.loop-slot-preserved
loop-slot-preserved c =
    listing_grown (codes ".", c.args.ino) (codes "..", c.args.parent) (pairs c.loop-slot.names.items) (pairs c.push_name-in-loop-slot.new.names.items) c.args.slots.now
    c.loop-slot.slot-index c.slot-item.result c.name.result.now c.ino.result c.loop-slot.invariant c.in_ok-push_name-3.ensures.added c.name.ensures.value
    c.ino.ensures c.slot-item.is c.loop-slot-test.true

pub returns-clause-shown : goal.returns-clause-shown
returns-clause-shown c =
    c.new.ensures ∙ c.loop-slot.invariant
    ∙ ap (λ (l : List NamedInode). (codes ".", c.args.ino) ∷ (codes "..", c.args.parent) ∷ map name_entry l)
    (take_all c.loop-slot.slot-index c.args.slots.now c.loop-slot-test.false)
