use Rattle.std.proofs.Common.{◌≡◌, ◌-◌, sym, ap, subst, ◌∙◌, arith, inr, None, Some}
use Rattle.std.specs.Ordering.{nat_cmp}
use Rattle.slab.specs.Slab.{entries_from}
use Rattle.fs_layout.specs.Maps.{get, without}
use Rattle.fs_model.specs.Processes.{Openings}
use Rattle.open_files.specs.Handles.{AreCounted}
use Rattle.open_files.proofs.Slots.{slots_rise, absent}
use Rattle.open_files.proofs.Handled.{at_handle, handles_emptied, counts_set, own_removed, others_removed}
use Rattle.open_files.proofs.openings.Openings.close.Goals as goal

pub returns-in_default : goal.returns-in_default
returns-in_default c =
    let slots = c.self.inside.slab.slots in
    let none : get nat_cmp (entries_from 0 slots) c.args.handle ≡ None = at_handle slots c.args.handle ∙ sym c.in_default.ensures.value in
    ap (λ s. entries_from 0 s.slots) c.in_default.ensures.absent
    ∙ absent (entries_from 0 slots) c.args.handle (slots_rise 0 slots) none
    ∙ ap (λ t. without nat_cmp t.0 c.args.handle) c.self.view_is

pub overflow_sub-count : goal.overflow_sub-count
overflow_sub-count c =
    let slots = c.self.inside.slab.slots in
    let there : get nat_cmp (entries_from 0 slots) c.args.handle ≡ Some c.in-Some.opened = at_handle slots c.args.handle ∙ sym c.in-Some.ensures.value in
    let one = own_removed (entries_from 0 slots) c.args.handle c.in-Some.opened c.opened.inside.ino (ap (λ x. x.ino) c.opened.view_is) (slots_rise 0 slots) there in
    let count = c.count_of-count.ensures ∙ c.self.invariant.each c.opened.inside.ino in
    omega (arith, one, count)

pub set_count-requires : goal.set_count-requires
set_count-requires c =
    let slots = c.self.inside.slab.slots in
    let there : get nat_cmp (entries_from 0 slots) c.args.handle ≡ Some c.in-Some.opened = at_handle slots c.args.handle ∙ sym c.in-Some.ensures.value in
    let one = own_removed (entries_from 0 slots) c.args.handle c.in-Some.opened c.opened.inside.ino (ap (λ x. x.ino) c.opened.view_is) (slots_rise 0 slots) there in
    let count = c.self.invariant.each c.opened.inside.ino in
    inr (λ none. omega (arith, one, count, none))

pub invariant_of-self-2 : goal.invariant_of-self-2
invariant_of-self-2 c =
    let slots = c.self.inside.slab.slots in
    let m = entries_from 0 slots in
    let h = c.args.handle in
    let d = c.in-Some.opened in
    let ino = c.opened.inside.ino in
    let same = ap (λ x. x.ino) c.opened.view_is in
    let there : get nat_cmp m h ≡ Some d = at_handle slots h ∙ sym c.in-Some.ensures.value in
    let one = own_removed m h d ino same (slots_rise 0 slots) there in
    let count = c.count_of-count.ensures ∙ c.self.invariant.each ino in
    let updates = c.in-Some.ensures.updates in
    subst (λ (t : Openings). AreCounted t c.set_count.new.counts.entries)
    (sym (handles_emptied slots c.try_remove.new.self.slots h (record { here = updates.changed; others = updates.others })))
    (counts_set m (without nat_cmp m h) c.self.inside.counts.entries c.set_count.new.counts.entries ino (c.count_of-count.result - 1) c.self.invariant
    c.set_count.ensures (omega (arith, count, one)) (others_removed m h d ino same (slots_rise 0 slots) there))

pub returns : goal.returns
returns c =
    let updates = c.in-Some.ensures.updates in
    handles_emptied c.self.inside.slab.slots c.try_remove.new.self.slots c.args.handle (record { here = updates.changed; others = updates.others })
    ∙ ap (λ t. without nat_cmp t.0 c.args.handle) c.self.view_is
