use Rattle.std.proofs.Common.{◌≡◌, ◌∙◌, true, false, eqb, ap, sym, subst}
use Rattle.std.proofs.lemmas.List.Quantifiers.{position-Some}
use Rattle.std.specs.Prelude.{IfNone}
use Rattle.std.specs.List.{list_any}
use Rattle.fs_layout.specs.Bytes.{SectorMap}
use Rattle.redo_journal.specs.Batch.{BatchView, has_entry, with_batch}
use Rattle.redo_journal.proofs.Marks.{unmarked_absent}
use Rattle.redo_journal.proofs.Places.{has_is, with_batch_at, with_batch_none}
use Rattle.redo_journal.proofs.batch.Batch.get.Goals as goal

no_entry : (c : goal.After-from_residual) → has_entry c.args.self.now.entries c.args.n ≡ false
no_entry c =
    let ns = c.self.inside.sectors.keys in
    let bytes = c.self.inside.contents.items in
    let none : list_any (eqb c.args.n) ns ≡ false = sym c.in_err-at.ensures.found in
    sym (ap (λ (v : BatchView). has_entry v.entries c.args.n) c.self.view_is) ∙ sym (has_is ns bytes c.args.n c.self.invariant.0.all) ∙ none

no_mark : (c : goal.Then-not-self-n) → has_entry c.args.self.now.entries c.args.n ≡ false
no_mark c =
    let ns = c.self.inside.sectors.keys in
    let bytes = c.self.inside.contents.items in
    let none = unmarked_absent ns c.self.inside.marks c.args.n c.self.invariant.1 c.if-not-self-n.true in
    sym (ap (λ (v : BatchView). has_entry v.entries c.args.n) c.self.view_is) ∙ sym (has_is ns bytes c.args.n c.self.invariant.0.all) ∙ none

pub returns-then-not-self-n-clause-none : goal.returns-then-not-self-n-clause-none
returns-then-not-self-n-clause-none c = no_mark c

pub returns-then-not-self-n-clause-other : goal.returns-then-not-self-n-clause-other
returns-then-not-self-n-clause-other c = λ f. with_batch_none c.args.self.now.entries c.args.n f (no_mark c)

pub returns-in_err-at-clause-none : goal.returns-in_err-at-clause-none
returns-in_err-at-clause-none c = subst (λ r. IfNone r (has_entry c.args.self.now.entries c.args.n ≡ false)) (sym c.from_residual.ensures) (no_entry c)

pub returns-in_err-at-clause-other : goal.returns-in_err-at-clause-other
returns-in_err-at-clause-other c =
    subst (λ r. IfNone r ((f : SectorMap) → with_batch c.args.self.now.entries f c.args.n ≡ f c.args.n)) (sym c.from_residual.ensures)
    (λ f. with_batch_none c.args.self.now.entries c.args.n f (no_entry c))

pub returns-clause-found : goal.returns-clause-found
returns-clause-found c =
    let ns = c.self.inside.sectors.keys in
    let bytes = c.self.inside.contents.items in
    let has : list_any (eqb c.args.n) ns ≡ true = sym c.in_ok-at.ensures.found in
    sym (ap (λ (v : BatchView). has_entry v.entries c.args.n) c.self.view_is) ∙ sym (has_is ns bytes c.args.n c.self.invariant.0.all) ∙ has

pub returns-clause-content : goal.returns-clause-content
returns-clause-content c = λ f.
    let ns = c.self.inside.sectors.keys in
    let bytes = c.self.inside.contents.items in
    let place = position-Some (eqb c.args.n) ns c.in_ok-at.at 0 (sym c.in_ok-at.ensures.index) in
    sym (ap (λ (v : BatchView). with_batch v.entries f c.args.n) c.self.view_is)
    ∙ with_batch_at ns bytes c.args.n c.in_ok-at.at c.index.result.now f c.self.invariant.0.all place ∙ sym c.index.ensures
