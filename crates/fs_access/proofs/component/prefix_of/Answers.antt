use Rattle.std.proofs.Common.{◌≡◌, ◌∙◌, ◌∷◌, [], map, sym, ap, subst, List, ℕ, rules, tests}
use Rattle.std.proofs.lemmas.Iterator.Consumers.{YieldsList-end}
use Rattle.std.proofs.lemmas.Iterator.Splits.{YieldsList-from_slice_split}
use Rattle.std.proofs.lemmas.List.{map-append}
use Rattle.std.specs.Prelude.{◌==◌, take}
use Rattle.std.proofs.lemmas.Result.{IfOk-weaker}
use Rattle.fs_model.specs.Parts.{components_of, slash}
use Rattle.fs_access.specs.Components.{behind_slashes, components_in, rooted}
use Rattle.fs_access.proofs.Fronts.{IsFront, front_begins, front_goes_on}
use Rattle.fs_access.proofs.component.prefix_of.Goals as goal

pub loop-piece-init : goal.loop-piece-init
loop-piece-init c = rw c.new-prefix.ensures.items (front_begins c.args.count)

pub loop-piece-preserved : goal.loop-piece-preserved
loop-piece-preserved c =
    subst (λ (pieces : List (List ℕ)). IsFront c.args.count pieces c.push_piece.new.prefix.items c.in_ok-left.left)
    (sym (map-append (λ x. x.now) c.loop-piece.yielded (c.in-Some.piece ∷ [])))
    (front_goes_on c.args.count (map (λ x. x.now) c.loop-piece.yielded) c.in-Some.piece.now c.loop-piece.prefix.items c.push_piece.new.prefix.items
    c.loop-piece.left c.in_ok-left.left c.loop-piece.invariant c.in_ok-left.ensures.added c.in_ok-left.ensures.left)

pub returns-clause-front : goal.returns-clause-front
returns-clause-front c =
    let end = YieldsList-end (YieldsList-from_slice_split _ (λ b. b == slash) c.args.path.now (cc) (cc) (cc) (λ x r q k. search (rules, tests)))
    c.loop-piece.yielded _ c.loop-piece.yielded_by _ _ c.in-None.is c.next.ensures.steps in
    let front : c.loop-piece.prefix.items ≡ behind_slashes (take c.args.count (components_of c.args.path.now)) =
    c.loop-piece.invariant.prefix_is ∙ ap (λ (pieces : List (List ℕ)). behind_slashes (take c.args.count (components_in pieces))) end.0 in
    IfOk-weaker c.rooted.result _ _ (λ made is. is ∙ ap rooted front) c.rooted.ensures.path
