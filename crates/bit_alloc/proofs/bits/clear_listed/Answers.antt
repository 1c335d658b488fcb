use Rattle.std.proofs.Common.{◌+◌, ◌/◌, ◌%◌, ℕ, List, get_or, refl, sym, subst, arith}
use Rattle.fs_layout.specs.Bytes.{IsSector}
use Rattle.bit_alloc.specs.Bits.{ClearsListed}
use Rattle.bit_alloc.proofs.Listed.{clears_none, clears_one, clears_zero}
use Rattle.bit_alloc.proofs.Marking.{IsSector-set}
use Rattle.bit_alloc.proofs.bits.clear_listed.Goals as goal
use Rattle.bit_alloc.proofs.bits.clear_listed.Goals.{then-n-ne0+else-n-k, else-n-ne0}

pub loop-i-init : goal.loop-i-init
loop-i-init c = record { from = omega arith; within = omega (arith, c.requires); whole = record { len = c.told-sector; bytes = c.fits-sector }; cleared = clears_none }

pub loop-i-preserved : goal.loop-i-preserved
loop-i-preserved c =
    let x = c.loop-i.invariant in
    let numbers : List ℕ = c.args.numbers.now in
    let n : ℕ = get_or numbers c.loop-i.i 0 in
    let So : List ℕ → Type 0 = ClearsListed numbers c.args.k c.args.from (c.loop-i.i + 1) c.args.sector.now in
    record {
      from = omega (arith, x.from);
      within = omega (arith, c.loop-i-test.true);
      whole = elim c.if-n-ne0.branch [
        | then-n-ne0+else-n-k w ↦ subst IsSector (sym w.sector-is) (IsSector-set c.loop-i.sector (n % 4096 / 8) w.with_bit.result x.whole (omega arith) w.with_bit.type_inv)
        | else-n-ne0 w ↦ subst IsSector (sym w.sector-is) x.whole
      ];
      cleared = elim c.if-n-ne0.branch [
        | then-n-ne0+else-n-k w ↦ subst So (sym w.sector-is)
            (clears_one n w.with_bit.result x.cleared x.from x.whole.len refl w.if-n-ne0.true w.if-n-k.false w.with_bit.ensures.here w.with_bit.ensures.others)
        | else-n-ne0 w ↦ subst So (sym w.sector-is) (clears_zero x.cleared w.if-n-ne0.false)
      ];
    }
