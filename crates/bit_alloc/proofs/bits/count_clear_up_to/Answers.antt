use Rattle.std.proofs.Common.{◌≡◌, ◌+◌, ◌*◌, ◌≤◌, ℕ, ap, sym, ◌∙◌, arith}
use Rattle.fs_layout.specs.Bytes.{SectorMap}
use Rattle.bit_alloc.specs.Bits.{clear_below}
use Rattle.bit_alloc.proofs.Maps.{none_counted, counted_at_most, fewer_counted}
use Rattle.bit_alloc.proofs.bits.count_clear_up_to.Goals as goal

pub loop-k-init : goal.loop-k-init
loop-k-init c = record { counted = sym (none_counted (λ _. c.args.sector.now) 0); few = omega arith }

-- the count so far is at most all
pub returns-then-free-enough-clause-some : goal.returns-then-free-enough-clause-some
returns-then-free-enough-clause-some c =
    let few : 512 * c.loop-k.k ≤ 4096 = omega arith in
    omega (arith, c.loop-k.invariant.counted, fewer_counted (λ _. c.args.sector.now) 0 (512 * c.loop-k.k) 4096 few)

pub overflow_add-free : goal.overflow_add-free
overflow_add-free c =
    let image : SectorMap = λ _. c.args.sector.now in
    omega (arith, c.loop-k.invariant.few, c.loop-k-test.true, c.clear_in-free.ensures, counted_at_most image 0 (512 * c.loop-k.k + 512))

pub loop-k-preserved : goal.loop-k-preserved
loop-k-preserved c =
    let image : SectorMap = λ _. c.args.sector.now in
    let next : 512 * c.loop-k.k + 512 ≡ 512 * (c.loop-k.k + 1) = omega arith in
    let counted : c.loop-k.free + c.clear_in-free.result ≡ clear_below image 0 (512 * (c.loop-k.k + 1)) =
    ap (λ (n : ℕ). n + c.clear_in-free.result) c.loop-k.invariant.counted ∙ sym c.clear_in-free.ensures ∙ ap (clear_below image 0) next in
    record { counted = counted; few = omega (arith, counted, counted_at_most image 0 (512 * (c.loop-k.k + 1))) }
