use Rattle.std.proofs.Common.{◌≡◌, ◌+◌, ◌*◌, ◌/◌, ◌<◌, ℕ, List, set, get_or, sym, subst, ◌∙◌, refl, arith}
use Rattle.std.proofs.lemmas.List.{length-set, get_or-set_same, get_or-set_other}
use Rattle.bit_alloc.specs.Bits.{SetsNumber}
use Rattle.bit_alloc.proofs.Marking.{IsSector-set}
use Rattle.bit_alloc.proofs.Taking.{sets_none, sets_number, sets_one}
use Rattle.bit_alloc.proofs.bits.set_listed.Goals as goal

pub loop-place-init : goal.loop-place-init
loop-place-init c = record {
  from = omega arith;
  within = omega (arith, c.requires.within);
  len = refl;
  before = λ i lt. refl;
  whole = record { len = c.told-sector; bytes = c.fits-sector };
  set = sets_none;
}

pub loop-place-preserved : goal.loop-place-preserved
loop-place-preserved c =
    let x = c.loop-place.invariant in
    let numbers : List ℕ = c.loop-place.numbers in
    let place : ℕ = c.loop-place.place in
    let b : ℕ = c.in-Some.i in
    let n : ℕ = 4096 * c.args.k + b in
    let few : b < 4096 = c.in-Some.ensures.within in
    let here : get_or (set numbers place n) place 0 ≡ n = get_or-set_same numbers place n 0 (omega (arith, x.len, c.loop-place-test.true)) in
    record {
      from = omega (arith, x.from);
      within = omega (arith, c.loop-place-test.true);
      len = length-set numbers place n ∙ x.len;
      before = λ i lt. get_or-set_other numbers place i n 0 (λ e. omega (arith, e, lt, x.from)) ∙ x.before i lt;
      whole = IsSector-set c.loop-place.sector (b / 8) c.with_bit.result x.whole (omega (arith, few)) c.with_bit.type_inv;
      set = sets_one x.set x.from (λ j lt. get_or-set_other numbers place j n 0 (λ e. omega (arith, e, lt)))
          (subst (λ (m : ℕ). SetsNumber c.args.k m c.loop-place.sector (set c.loop-place.sector (b / 8) c.with_bit.result)) (sym here)
          (sets_number c.args.k b c.with_bit.result x.whole few c.in-Some.ensures.clear c.with_bit.type_inv c.with_bit.ensures.here c.with_bit.ensures.others));
    }
