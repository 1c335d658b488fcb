use Rattle.std.proofs.Common.{◌≡◌, ◌==◌, sym, ap, ◌∙◌, None, Some}
use Rattle.std.specs.Prelude.{if◌then◌else◌}
use Rattle.std.proofs.lemmas.Bool.{eq-eqb, ne_eqb}
use Rattle.std.specs.Ordering.{nat_cmp}
use Rattle.fs_layout.specs.Maps.{get}
use Rattle.open_files.specs.Handles.{own_found}
use Rattle.open_files.proofs.Handled.{at_handle}
use Rattle.open_files.proofs.openings.Openings.own.Goals as goal

pub returns-in_default : goal.returns-in_default
returns-in_default c =
    let here : get nat_cmp c.args.self.now.0 c.args.handle ≡ None = ap (λ t. get nat_cmp t.0 c.args.handle) (sym c.self.view_is) ∙ at_handle c.self.inside.slab.slots c.args.handle ∙ sym c.in_default.ensures in
    sym (ap (own_found c.args.ino) here)

pub returns-then-opened-ino : goal.returns-then-opened-ino
returns-then-opened-ino c =
    let here : get nat_cmp c.args.self.now.0 c.args.handle ≡ Some c.in-Some.opened.now = ap (λ t. get nat_cmp t.0 c.args.handle) (sym c.self.view_is) ∙ at_handle c.self.inside.slab.slots c.args.handle ∙ sym c.in-Some.ensures in
    sym (ap (own_found c.args.ino) here ∙ ap (λ d. if d.ino == c.args.ino then 1 else 0) (sym c.opened.view_is)
    ∙ ap (λ b. if b then 1 else 0) (eq-eqb c.opened.inside.ino c.args.ino c.if-opened-ino.true))

pub returns-else-opened-ino : goal.returns-else-opened-ino
returns-else-opened-ino c =
    let here : get nat_cmp c.args.self.now.0 c.args.handle ≡ Some c.in-Some.opened.now = ap (λ t. get nat_cmp t.0 c.args.handle) (sym c.self.view_is) ∙ at_handle c.self.inside.slab.slots c.args.handle ∙ sym c.in-Some.ensures in
    sym (ap (own_found c.args.ino) here ∙ ap (λ d. if d.ino == c.args.ino then 1 else 0) (sym c.opened.view_is)
    ∙ ap (λ b. if b then 1 else 0) (ne_eqb c.opened.inside.ino c.args.ino c.if-opened-ino.false))
