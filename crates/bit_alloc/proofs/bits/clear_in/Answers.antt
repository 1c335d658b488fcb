use Rattle.std.proofs.Common.{◌≡◌, ◌+◌, ◌*◌, ℕ, Bool, refl, ap, arith}
use Rattle.std.specs.Prelude.{List, count_by}
use Rattle.std.specs.List.{range_with_len}
use Rattle.std.specs.Int.RustNames.{count_ones}
use Rattle.fs_layout.specs.Bytes.{IsSector, u64_of}
use Rattle.fs_layout.specs.Images.{bit}
use Rattle.fs_layout.proofs.Counting.{count_at_most}
use Rattle.bit_alloc.proofs.Words.{ones_few, word_counted, rest_clear}
use Rattle.bit_alloc.proofs.bits.clear_in.Goals as goal

pub loop-i-init : goal.loop-i-init
loop-i-init c =
    let sector : List ℕ = c.args.sector.now in
    let f : ℕ → Bool = bit (λ _. sector) 0 in
    let start : 64 * (8 * c.args.k) ≡ 512 * c.args.k = omega arith in
    let counted : count_by f (range_with_len 0 (64 * (8 * c.args.k))) ≡ count_by f (range_with_len 0 (512 * c.args.k)) = ap (λ (n : ℕ). count_by f (range_with_len 0 n)) start in
    record { counted = omega (arith, counted); few = omega arith }

pub loop-i-preserved : goal.loop-i-preserved
loop-i-preserved c =
    let sector : List ℕ = c.args.sector.now in
    let f : ℕ → Bool = bit (λ _. sector) 0 in
    let whole : IsSector sector = record { len = c.told-sector; bytes = c.fits-sector } in
    let word = word_counted sector whole c.loop-i.i 64 refl (omega arith) in
    let ones : count_ones c.word.result ≡ count_ones (u64_of sector (8 * c.loop-i.i)) = ap count_ones c.word.ensures in
    let next : 64 * c.loop-i.i + 64 ≡ 64 * (c.loop-i.i + 1) = omega arith in
    let more : count_by f (range_with_len 0 (64 * c.loop-i.i + 64)) ≡ count_by f (range_with_len 0 (64 * (c.loop-i.i + 1))) = ap (λ (n : ℕ). count_by f (range_with_len 0 n)) next in
    let counted : count_by f (range_with_len 0 (64 * (c.loop-i.i + 1))) ≡ count_by f (range_with_len 0 (512 * c.args.k)) + (c.loop-i.set + count_ones c.word.result) =
    omega (arith, c.loop-i.invariant.counted, word, ones, more) in
    record { counted = counted; few = omega (arith, c.loop-i.invariant.few, ones_few 64 c.word.result (omega arith)) }

pub returns : goal.returns
returns c =
    let sector : List ℕ = c.args.sector.now in
    let f : ℕ → Bool = bit (λ _. sector) 0 in
    let end : 64 * c.loop-i.i ≡ 512 * c.args.k + 512 = omega arith in
    let counted : count_by f (range_with_len 0 (64 * c.loop-i.i)) ≡ count_by f (range_with_len 0 (512 * c.args.k + 512)) = ap (λ (n : ℕ). count_by f (range_with_len 0 n)) end in
    omega (
      arith,
      counted,
      c.loop-i.invariant.counted,
      c.loop-i.invariant.few,
      count_at_most f 0 (512 * c.args.k),
      rest_clear sector (512 * c.args.k),
      rest_clear sector (512 * c.args.k + 512),
    )
