use Rattle.std.proofs.Common.{ap, subst}
use Rattle.std.specs.Prelude.{is_some}
use Rattle.dir_core.specs.Slots.{IsFoundIn}
use Rattle.dir_core.proofs.Changing.{slots_there, slots_after_reads, not_there, said_by_names}
use Rattle.dir_core.proofs.names.named_slot.Goals as goal

pub returns-in_default-clause-why : goal.returns-in_default-clause-why
returns-in_default-clause-why g c = λ names h.
    let none = not_there h.slots c.args.name.now h.apart c.in_ok-found.field-0 (c.in_ok-found.ensures.found h.slots (slots_there h)) (ap is_some c.in_default.is) in
    said_by_names c.args.name.now h none

pub returns-clause-found : goal.returns-clause-found
returns-clause-found g c = λ slots h. subst (IsFoundIn slots c.args.name.now) c.in-Some.is (c.in_ok-found.ensures.found slots h)

pub returns-clause-slots : goal.returns-clause-slots
returns-clause-slots g c =
    let h = c.requires.directory.1 in
    let is = subst (IsFoundIn h.slots c.args.name.now) c.in-Some.is (c.in_ok-found.ensures.found h.slots (slots_there h)) in
    (h.slots, slots_after_reads c.in_ok-found.ensures.same (slots_there h), is.0)
