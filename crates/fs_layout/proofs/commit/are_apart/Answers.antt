use Rattle.std.proofs.Common.{◌≡◌, ap, ◌∙◌, refl, get_or, inl, inr, arith}
use Rattle.std.proofs.lemmas.Bool.{cases_lt}
use Rattle.fs_layout.proofs.commit.are_apart.Goals as goal

pub loop-i-preserved : goal.loop-i-preserved
loop-i-preserved c = λ a b d low below same.
    elim (cases_lt b c.loop-i.i) [
      | inl before ↦ c.loop-i.invariant a b d low before same
      | inr past ↦
          let here : b ≡ c.loop-i.i = omega arith in
          c.loop-j.invariant a d (omega arith) (same ∙ ap (λ k. get_or c.args.targets.now k d) here)
    ]

pub returns : goal.returns
returns c = (λ _ i j d low lt. c.loop-i.invariant i j d low (omega arith), λ _. refl)
