use Rattle.std.proofs.Common.{◌≡◌, ◌+◌, ℕ, sym, subst, ◌∙◌, arith, inl, inr}
use Rattle.std.proofs.lemmas.Bool.{cases_lt}
use Rattle.fs_layout.specs.Images.{pointer}
use Rattle.block_map.proofs.Running.{loaded_further}
use Rattle.block_map.proofs.write.run_of_holes.Goals as goal

pub loop-i-init : goal.loop-i-init
loop-i-init c = record { within = omega arith; holes = λ image loaded j low high. absurd (omega (arith, low, high)) }

pub loop-i-preserved : goal.loop-i-preserved
loop-i-preserved c = record {
  within = omega (arith, c.loop-i-test.true);
  holes = λ image loaded j low high. elim (cases_lt j (c.args.k + c.loop-i.i)) [
    | inl before ↦ c.loop-i.invariant.holes image loaded j low before
    | inr here ↦
        let is : c.args.k + c.loop-i.i ≡ j = omega (arith, here, high) in
        subst (λ (n : ℕ). pointer image c.args.blocks.now.inode n ≡ 0) is
        (sym (c.number.ensures image (loaded_further c.loop-i.i loaded (omega (arith, c.if-k-lt-DIRECT_BLOCKS.false)) (omega (arith, c.loop-i-test.true, c.min-most.ensures)))) ∙ c.if-number-ne0.false)
  ];
}
