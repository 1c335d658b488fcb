use Rattle.std.proofs.Common.{◌≡◌, ℕ, take, refl, sym, ap, subst, ◌∙◌, arith}
use Rattle.fs_lines.specs.Words.{left_over, flag_letters, without_letter}
use Rattle.fs_lines.proofs.Letters.{left_over_more}
use Rattle.fs_lines.proofs.forms.left_over.Goals as goal

pub loop-letter-init : goal.loop-letter-init
loop-letter-init c = refl

pub loop-letter-preserved : goal.loop-letter-preserved
loop-letter-preserved c =
    c.without_letter-rest.ensures ∙ ap (without_letter _) c.loop-letter.invariant
    ∙ sym (left_over_more flag_letters c.loop-letter.letter-index c.args.word.now c.loop-letter-test.true)

pub returns : goal.returns
returns c =
    let all : c.loop-letter.letter-index ≡ 8 = omega (arith, c.loop-letter-test.false, c.loop-letter.auto.letter-index-end) in
    subst (λ (i : ℕ). c.loop-letter.rest.now ≡ left_over (take i flag_letters) c.args.word.now) all c.loop-letter.invariant
