use Rattle.std.proofs.Common.{ℕ, nat_eq, ap, sym, ◌∙◌}
use Rattle.std.specs.Int.{w8}
use Rattle.std.proofs.lemmas.Nat.Bits.{bit_at_set_same, bit_at_set_other, bit_at_clear_same, bit_at_clear_other}
use Rattle.bit_alloc.proofs.bits.with_bit.Goals as goal

pub returns-then-set-clause-here : goal.returns-then-set-clause-here
returns-then-set-clause-here c = ap (λ (m : ℕ). nat_eq m 1) (bit_at_set_same w8 c.args.byte c.args.i c.requires) ∙ sym c.if-set.true

pub returns-then-set-clause-others : goal.returns-then-set-clause-others
returns-then-set-clause-others c = λ j lt ne. bit_at_set_other w8 c.args.byte c.args.i c.requires j ne

pub returns-else-set-clause-here : goal.returns-else-set-clause-here
returns-else-set-clause-here c = ap (λ (m : ℕ). nat_eq m 1) (bit_at_clear_same w8 c.args.byte c.args.i c.requires) ∙ sym c.if-set.false

pub returns-else-set-clause-others : goal.returns-else-set-clause-others
returns-else-set-clause-others c = λ j lt ne. bit_at_clear_other w8 c.args.byte c.args.i c.requires j lt ne
