use Rattle.std.proofs.Common.{◌≡◌, ◌+◌, ◌*◌, ℕ, Bool, List, refl, ap, arith}
use Rattle.std.specs.Prelude.{count_by}
use Rattle.std.specs.List.{range_with_len}
use Rattle.std.specs.Int.RustNames.{count_ones}
use Rattle.std.proofs.lemmas.Grind.{common_steps}
use Rattle.fs_layout.specs.Bytes.{IsSector, u64_of}
use Rattle.fs_layout.specs.Images.{bit}
use Rattle.fs_layout.proofs.Counting.{count_at_most}
use Rattle.bit_alloc.proofs.Words.{ones_few, word_counted}
use Rattle.free_counts.proofs.Known.{clear_left}
use Rattle.free_counts.proofs.count_clear.Goals as goal

pub overflow_add-set : goal.overflow_add-set
overflow_add-set c =
    omega (
      arith,
      c.loop-k.invariant.counted,
      count_at_most (bit (λ _. c.args.sector.now) 0) 0 (64 * c.loop-k.k),
      ones_few 64 c.read_u64.result (omega arith),
    )

pub loop-k-preserved : goal.loop-k-preserved
unfolding u64_of
loop-k-preserved c =
    let sector : List ℕ = c.args.sector.now in
    let f : ℕ → Bool = bit (λ _. sector) 0 in
    let whole : IsSector sector = record { len = c.told-sector; bytes = c.fits-sector } in
    let word = word_counted sector whole c.loop-k.k 64 refl (omega arith) in
    let read : c.read_u64.result ≡ u64_of sector (8 * c.loop-k.k) = grind (arith, common_steps) in
    let ones : count_ones c.read_u64.result ≡ count_ones (u64_of sector (8 * c.loop-k.k)) = ap count_ones read in
    let next : 64 * c.loop-k.k + 64 ≡ 64 * (c.loop-k.k + 1) = omega arith in
    let more : count_by f (range_with_len 0 (64 * c.loop-k.k + 64)) ≡ count_by f (range_with_len 0 (64 * (c.loop-k.k + 1))) = ap (λ (n : ℕ). count_by f (range_with_len 0 n)) next in
    record { counted = omega (arith, c.loop-k.invariant.counted, word, ones, more) }

pub overflow_sub-result : goal.overflow_sub-result
overflow_sub-result c = omega (arith, c.loop-k.invariant.counted, count_at_most (bit (λ _. c.args.sector.now) 0) 0 (64 * c.loop-k.k))

pub returns : goal.returns
returns c = clear_left c.args.sector.now 4096 (64 * c.loop-k.k) c.loop-k.set (omega arith) c.loop-k.invariant.counted
