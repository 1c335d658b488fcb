use Rattle.std.proofs.Common.{◌≡◌, ℕ, ◌+◌, ◌-◌, ap, sym, ◌∙◌, length, take, drop, arith}
use Rattle.std.proofs.lemmas.Slice.Eq.{bytes_eq-Decides}
use Rattle.dir_core.proofs.Pieces.{length_there, last_byte, name_there}
use Rattle.dir_core.proofs.names.is_named.Goals as goal

pub returns-then-block-at-clause-named : goal.returns-then-block-at-clause-named
returns-then-block-at-clause-named c = λ x is.
    ((λ f. absurd cc), λ same. absurd (c.if-block-at.true (length_there c.args.block.now c.args.at x is ∙ ap length same)))

pub returns-then-block-at-2-clause-named : goal.returns-then-block-at-2-clause-named
returns-then-block-at-2-clause-named c = λ x is.
    ((λ f. absurd cc), λ same. absurd (c.if-block-at-2.true (last_byte c.args.block.now c.args.at x is c.args.name.now same)))

pub returns-clause-named : goal.returns-clause-named
returns-clause-named c = λ x is.
    let block = c.args.block.now in
    let name = c.args.name.now in
    let at = c.args.at in
    let n : ℕ = at + 8 + length name - (at + 8) in
    let long : n ≡ length x.name = omega (arith, c.if-block-at.false, length_there block at x is) in
    let part : take n (drop (at + 8) block) ≡ x.name =
    ap (λ k. take k (drop (at + 8) block)) long ∙ name_there block at x is (omega (arith, c.requires.within)) in
    let tested = bytes_eq-Decides (take n (drop (at + 8) block)) name in
    ((λ t. sym part ∙ tested.0 (sym c.eq.ensures ∙ t)), λ same. c.eq.ensures ∙ tested.1 (part ∙ same))
