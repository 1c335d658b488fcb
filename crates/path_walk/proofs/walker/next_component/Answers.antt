use Rattle.std.proofs.Common.{◌+◌, ℕ, List, drop, sym, ap, ◌∙◌, arith, not}
use Rattle.std.specs.Prelude.{◌==◌}
use Rattle.std.specs.List.{position}
use Rattle.std.proofs.lemmas.List.{take_rest}
use Rattle.path_walk.specs.Components.{component_len}
use Rattle.path_walk.proofs.Cutting.{next_none, next_found}
use Rattle.path_walk.proofs.walker.next_component.Goals as goal

pub returns-in_err-start : goal.returns-in_err-start
returns-in_err-start c =
    let path = c.args.path.now in
    let none = next_none (drop c.args.at path)
    (ap (λ (l : List ℕ). position (λ b. not (b == 47)) l) (sym (take_rest path c.args.at)) ∙ sym c.first_other.ensures ∙ c.in_err-start.was) in
    rw c.from_residual.ensures none

pub overflow_add-result : goal.overflow_add-result
overflow_add-result c =
    let path = c.args.path.now in
    let k = c.in_ok-start.field-0 in
    let next = next_found path c.args.at k c.component_len-len.result c.requires
    (ap (λ (l : List ℕ). position (λ b. not (b == 47)) l) (sym (take_rest path c.args.at)) ∙ sym c.first_other.ensures ∙ c.in_ok-start.was)
    (c.component_len-len.ensures ∙ ap component_len (take_rest path (c.args.at + k))) in
    let inside = next.inside in
    omega (arith, inside)

pub returns : goal.returns
returns c =
    let path = c.args.path.now in
    let k = c.in_ok-start.field-0 in
    next_found path c.args.at k c.component_len-len.result c.requires
    (ap (λ (l : List ℕ). position (λ b. not (b == 47)) l) (sym (take_rest path c.args.at)) ∙ sym c.first_other.ensures ∙ c.in_ok-start.was)
    (c.component_len-len.ensures ∙ ap component_len (take_rest path (c.args.at + k)))
