use Rattle.std.proofs.Common.{◌≡◌, ◌≤◌, ◌<◌, ◌+◌, ℕ, replicate, sym, subst, ◌∙◌, arith, inl, inr}
use Rattle.std.proofs.lemmas.Bool.{cases_lt}
use Rattle.fs_layout.specs.Bytes.{SectorMap}
use Rattle.bit_alloc.proofs.Transactions.{unchanged_joined}
use Rattle.blank_map.proofs.has_zero_table.Goals as goal

zero_so_far : (image : SectorMap) (low n : ℕ) → ((k : ℕ) → low ≤ k → k < n → image k ≡ replicate 512 0) → image n ≡ replicate 512 0
    → (k : ℕ) → low ≤ k → k < n + 1 → image k ≡ replicate 512 0
zero_so_far image low n before here k from to = elim (cases_lt k n) [
  | inl lt ↦ before k from lt
  | inr ge ↦ let is : n ≡ k = omega arith in subst (λ (u : ℕ). image u ≡ replicate 512 0) is here
]

pub loop-t-preserved : goal.loop-t-preserved
loop-t-preserved g c =
    let image : SectorMap = (g.S.Sectors.state c.args.s.now).sectors in
    let here : c.get.new.to ≡ image c.loop-t.t = c.in_ok-get.ensures.content ∙ c.loop-t.invariant.same.sectors c.loop-t.t in
    record {
      same = unchanged_joined c.loop-t.invariant.same c.in_ok-get.ensures.same;
      zero = zero_so_far image c.args.geometry.table c.loop-t.t c.loop-t.invariant.zero (sym here ∙ c.is_zeros.ensures c.if-not-is_zeros.false);
    }
