use Rattle.std.proofs.Common.{◌≡◌, ◌≤◌, ◌<◌, ◌+◌, ℕ, subst, ◌∙◌, arith, inl, inr}
use Rattle.std.specs.Prelude.{List}
use Rattle.std.proofs.lemmas.Bool.{cases_lt}
use Rattle.fs_layout.specs.Bytes.{SectorMap, IsSector}
use Rattle.bit_alloc.proofs.Transactions.{unchanged_joined}
use Rattle.blank_map.proofs.read_tables.Goals as goal

whole_so_far : (image : SectorMap) (first n : ℕ) → ((t : ℕ) → first ≤ t → t < n → IsSector (image t)) → IsSector (image n) → (t : ℕ) → first ≤ t → t < n + 1 → IsSector (image t)
whole_so_far image first n before here t from to = elim (cases_lt t n) [
  | inl lt ↦ before t from lt
  | inr ge ↦ let is : n ≡ t = omega arith in subst (λ (u : ℕ). IsSector (image u)) is here
]

pub loop-n-preserved : goal.loop-n-preserved
loop-n-preserved g c =
    let image : SectorMap = (g.S.Sectors.state c.args.s.now).sectors in
    let sector : List ℕ = c.get.new.to in
    let here : sector ≡ image c.loop-n.n = c.in_ok-get.ensures.content ∙ c.loop-n.invariant.same.sectors c.loop-n.n in
    let read : IsSector sector = record { len = c.get.array_long; bytes = c.tell_bytes.ensures } in
    record {
      same = unchanged_joined c.loop-n.invariant.same c.in_ok-get.ensures.same;
      whole = whole_so_far image c.args.geometry.inode_bitmap c.loop-n.n c.loop-n.invariant.whole (subst IsSector here read);
    }
