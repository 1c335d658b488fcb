use Rattle.std.proofs.Common.{◌<◌, ◌+◌, sym, ap, subst, ◌∙◌, arith, inl}
use Rattle.std.specs.HashMap.{spare}
use Rattle.std.specs.Ordering.{nat_cmp}
use Rattle.slab.specs.Slab.{entries_from}
use Rattle.slab.proofs.SlabLemmas.{length-entries_from}
use Rattle.fs_layout.specs.Maps.{get, with_entry}
use Rattle.fs_model.specs.Processes.{Openings}
use Rattle.open_files.specs.Handles.{room_left, AreCounted}
use Rattle.open_files.proofs.Slots.{slots_rise}
use Rattle.open_files.proofs.Handled.{at_handle, handles_filled, counts_set, own_added, others_added, count_few}
use Rattle.open_files.proofs.openings.Openings.open.Goals as goal

pub set_count-requires : goal.set_count-requires
set_count-requires c =
    let room : 0 < room_left c.self.inside.slab c.self.inside.counts = omega (arith, c.requires, ap (λ t. t.1) c.self.view_is) in
    let spared : 0 < spare c.self.inside.counts = omega (arith, room) in
    inl spared

pub overflow_add-count : goal.overflow_add-count
overflow_add-count c =
    let room : 0 < room_left c.self.inside.slab c.self.inside.counts = omega (arith, c.requires, ap (λ t. t.1) c.self.view_is) in
    let m = entries_from 0 c.self.inside.slab.slots in
    let few = count_few c.opened.inside.ino m in
    let len = length-entries_from 0 c.self.inside.slab.slots in
    let count = c.count_of-count.ensures ∙ c.self.invariant.each c.opened.inside.ino in
    let capacity = c.capacity-capacity.ensures.value in
    omega (arith, room, few, len, count, capacity)

pub invariant_of-self : goal.invariant_of-self
invariant_of-self c =
    let slots = c.self.inside.slab.slots in
    let m = entries_from 0 slots in
    let key = c.insert_reserved-key in
    let ino = c.opened.inside.ino in
    let d = c.args.opened in
    let same = ap (λ x. x.ino) c.opened.view_is in
    let none = at_handle slots key.result ∙ key.ensures.was_vacant in
    let count = c.count_of-count.ensures ∙ c.self.invariant.each ino in
    let one = own_added m key.result d ino same (slots_rise 0 slots) none in
    subst (λ (t : Openings). AreCounted t c.set_count.new.counts.entries)
    (sym (handles_filled slots key.new.self.slots key.result d (record { here = key.ensures.updates.changed; others = key.ensures.updates.others })))
    (counts_set m (with_entry nat_cmp m key.result d) c.self.inside.counts.entries c.set_count.new.counts.entries ino (c.count_of-count.result + 1) c.self.invariant
    c.set_count.ensures (omega (arith, count, one)) (others_added m key.result d ino same (slots_rise 0 slots) none))

pub returns-clause-unused : goal.returns-clause-unused
returns-clause-unused c =
    let key = c.insert_reserved-key in
    ap (λ t. get nat_cmp t.0 key.result) (sym c.self.view_is) ∙ at_handle c.self.inside.slab.slots key.result ∙ key.ensures.was_vacant

pub returns-clause-opened : goal.returns-clause-opened
returns-clause-opened c =
    let key = c.insert_reserved-key in
    handles_filled c.self.inside.slab.slots key.new.self.slots key.result c.args.opened (record { here = key.ensures.updates.changed; others = key.ensures.updates.others })
    ∙ ap (λ t. with_entry nat_cmp t.0 key.result c.args.opened) c.self.view_is
