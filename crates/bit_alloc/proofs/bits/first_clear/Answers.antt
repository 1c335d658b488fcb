use Rattle.std.proofs.Common.{◌≡◌, ◌*◌, ◌-◌, ◌^◌, ap, ◌∙◌, sym, inl, inr, arith}
use Rattle.std.proofs.lemmas.Bool.{cases_lt}
use Rattle.fs_layout.specs.Bytes.{u64_of}
use Rattle.bit_alloc.proofs.Words.{set_in_words, least_in_word}
use Rattle.bit_alloc.proofs.bits.first_clear.Goals as goal

pub loop-k-preserved : goal.loop-k-preserved
loop-k-preserved c = λ j to. elim (cases_lt j c.loop-k.k) [
  | inl lt ↦ c.loop-k.invariant j lt
  | inr from ↦
      let here : j ≡ c.loop-k.k = omega arith in
      let full : c.word-bits.result ≡ 2 ^ 64 - 1 = omega arith in
      ap (λ n. u64_of c.args.sector.now (8 * n)) here ∙ sym c.word-bits.ensures ∙ full
]

pub returns-then-bits-lt18446744073709551615 : goal.returns-then-bits-lt18446744073709551615
returns-then-bits-lt18446744073709551615 c =
    least_in_word c.args.sector.now c.fits-sector c.loop-k.k c.word-bits.result c.trailing_ones.result c.loop-k-test.true c.word-bits.ensures (omega arith) c.trailing_ones.ensures c.loop-k.invariant

pub returns : goal.returns
returns c = set_in_words c.args.sector.now c.fits-sector 64 (omega arith) (λ j lt. c.loop-k.invariant j (omega arith))
