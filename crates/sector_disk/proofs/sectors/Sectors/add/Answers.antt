use Rattle.std.proofs.Common.{◌∙◌, refl}
use Rattle.sector_disk.proofs.Placed.{has_none, new_kept, new_shown, new_keeps, pushed, not_pushed, unpushed}
use Rattle.sector_disk.proofs.Placed.{kept_as, view_as, place_seen}
use Rattle.sector_disk.proofs.sectors.Sectors.add.Goals as goal

pub invariant_of-self-in_default-add : goal.invariant_of-self-in_default-add
invariant_of-self-in_default-add c =
    new_kept
    (has_none c.args.self.now c.args.n c.in-Ok.place c.args.content.now c.self.invariant c.self.view_is c.requires.below c.requires.none (c.in-Ok.ensures.1 ∙ c.len.ensures ∙ c.self.inside.contents.ok.0) c.tell_whole.ensures)
    c.in_default-add.ensures.ok
    (pushed c.extend_from_slice.result c.is_err.result c.self.inside.contents.items c.extend_from_slice.new.self.items c.from_ref.result.now c.args.content.now c.is_err.ensures.negation c.if-is_err.false
    c.extend_from_slice.ensures.items c.from_ref.ensures.value)
    c.in_ok-push.ensures.items

pub returns-clause-ok : goal.returns-clause-ok
returns-clause-ok c =
    new_shown
    (has_none c.args.self.now c.args.n c.in-Ok.place c.args.content.now c.self.invariant c.self.view_is c.requires.below c.requires.none (c.in-Ok.ensures.1 ∙ c.len.ensures ∙ c.self.inside.contents.ok.0) c.tell_whole.ensures)
    c.in_default-add.ensures.ok
    (pushed c.extend_from_slice.result c.is_err.result c.self.inside.contents.items c.extend_from_slice.new.self.items c.from_ref.result.now c.args.content.now c.is_err.ensures.negation c.if-is_err.false
    c.extend_from_slice.ensures.items c.from_ref.ensures.value)

pub returns-clause-keeps : goal.returns-clause-keeps
returns-clause-keeps c =
    new_keeps
    (has_none c.args.self.now c.args.n c.in-Ok.place c.args.content.now c.self.invariant c.self.view_is c.requires.below c.requires.none (c.in-Ok.ensures.1 ∙ c.len.ensures ∙ c.self.inside.contents.ok.0) c.tell_whole.ensures)
    c.in_default-add.ensures.ok

pub add-requires : goal.add-requires
add-requires c =
    let i = c.self.inside in
    (place_seen i.places i.contents.items c.args.self.now c.args.n c.self.view_is c.requires.below).0

pub invariant_of-self-then-is_err : goal.invariant_of-self-then-is_err
invariant_of-self-then-is_err c =
    let i = c.self.inside in
    let grown = c.extend_from_slice in
    let failed = c.if-is_err.true in
    kept_as refl
    (not_pushed grown.result i.contents.items c.from_ref.result.now c.is_err.ensures.negation failed
    grown.ensures.items)
    (unpushed i.owners.items c.args.n c.in_ok-push.ensures.items c.push.new.self.ok.0 c.pop.ensures.rest)
    c.self.invariant

pub invariant_of-self-in-Err : goal.invariant_of-self-in-Err
invariant_of-self-in-Err c =
    let i = c.self.inside in
    let grown = c.extend_from_slice in
    let fine = c.if-is_err.false in
    let pushed =
    pushed grown.result c.is_err.result i.contents.items grown.new.self.items c.from_ref.result.now
    c.args.content.now c.is_err.ensures.negation fine grown.ensures.items c.from_ref.ensures.value in
    kept_as c.in-Err.ensures.err
    (unpushed i.contents.items c.args.content.now pushed grown.new.self.ok.0 c.pop-in-Err-2.ensures.rest)
    (unpushed i.owners.items c.args.n c.in_ok-push.ensures.items c.push.new.self.ok.0
    c.pop-in-Err.ensures.rest)
    c.self.invariant

pub returns-in-Err-clause-err : goal.returns-in-Err-clause-err
returns-in-Err-clause-err c =
    let i = c.self.inside in
    let grown = c.extend_from_slice in
    let pushed =
    pushed grown.result c.is_err.result i.contents.items grown.new.self.items c.from_ref.result.now
    c.args.content.now c.is_err.ensures.negation c.if-is_err.false grown.ensures.items
    c.from_ref.ensures.value in
    view_as c.in-Err.ensures.err
    (unpushed i.contents.items c.args.content.now pushed grown.new.self.ok.0 c.pop-in-Err-2.ensures.rest)
    c.self.view_is
