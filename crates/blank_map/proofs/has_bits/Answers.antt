use Rattle.std.proofs.Common.{◌≡◌, ◌<◌, ◌+◌, ℕ, ◌↔◌, sym, ap, subst, ◌∙◌, arith, inl, inr, IsTrue}
use Rattle.std.proofs.lemmas.Bool.{cases_lt}
use Rattle.fs_layout.specs.Bytes.{SectorMap}
use Rattle.fs_layout.specs.Images.{bit}
use Rattle.bit_alloc.specs.Bitmaps.{first_sector, IsNumber}
use Rattle.bit_alloc.proofs.Transactions.{map_unchanged, unchanged_joined}
use Rattle.blank_map.proofs.has_bits.Goals as goal

each_below : (P : ℕ → Type 0) (n : ℕ) → ((i : ℕ) → i < n → P i) → P n → (i : ℕ) → i < n + 1 → P i
each_below P n before here i to = elim (cases_lt i n) [
  | inl lt ↦ before i lt
  | inr ge ↦ let is : n ≡ i = omega arith in subst P is here
]

pub loop-n-preserved : goal.loop-n-preserved
loop-n-preserved g c =
    let p = c.args.geometry in
    let map = c.args.map in
    let n = c.loop-n.n in
    let image : SectorMap = (g.S.Sectors.state c.args.s.now).sectors in
    let first = first_sector p map in
    let unread = sym (ap (λ (of : SectorMap). bit of first n) (map_unchanged c.loop-n.invariant.same)) in
    let here = subst (λ b. IsTrue b ↔ (IsNumber p map n → ⊥)) (c.in_ok-taken.ensures.taken ∙ unread) (c.may_be.ensures c.if-not-may_be.false) in
    record {
      same = unchanged_joined c.loop-n.invariant.same c.in_ok-taken.ensures.same;
      set = each_below (λ i. IsTrue (bit image first i) ↔ (IsNumber p map i → ⊥)) n c.loop-n.invariant.set here;
    }

pub returns-clause-set : goal.returns-clause-set
returns-clause-set g c = λ yes n low.
    let past : n < c.loop-n.n = omega (arith, low, c.count_bits-n-end.ensures, c.loop-n-test.false) in
    c.loop-n.invariant.set n past
