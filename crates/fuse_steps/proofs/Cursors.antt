-- Where the names behind an offset begin.
--     compare_total, compare_anti        the order of a listing is total, and only equal names with equal inodes tie
--     next-offset        the next name has the next offset
--     stops-here, goes-past        of names with offsets, those with greater ones than this: from the next on, or none but later ones
use Rattle.std.specs.Prelude.{◌≡◌, ℕ, ◌<◌, ◌≤◌, nat_lt, true, false, List, ◌∷◌}
use Rattle.std.specs.List.{filter}
use Rattle.std.proofs.Common.{refl, sym, ap, ◌∙◌, arith}
use Rattle.std.proofs.lemmas.Bool.{lt-ltb, le-ltb}
use Rattle.std.proofs.lemmas.Cmp.{nat_cmp_total, nat_list_cmp_total}
use Rattle.std.specs.Cmp.{IsTotalOrder, then_total, on_total}
use Rattle.std.specs.FinMap.{IsAntisymmetric, nat_cmp-IsAntisymmetric, slice_cmp-IsAntisymmetric}
use Rattle.std.specs.Ordering.{ordering_then}
use Rattle.std.specs.declared.cmp.Ordering.{Ordering}
use Rattle.std.specs.declared.cmp.Ordering.TheVariants.{Less, Equal, Greater}
use Rattle.fuse_plans.specs.ListingOrder.{listing_place, compare_listed, offset_behind, with_offsets}
use Rattle.fuse_plans.proofs.ListingLaws.{behind-all}

pub compare_total : IsTotalOrder compare_listed
compare_total = then_total (on_total (λ e. listing_place e.0) nat_cmp_total) (then_total (on_total (λ e. e.0) nat_list_cmp_total) (on_total (λ e. e.1) nat_cmp_total))

second_ties : (a b : Ordering) → ordering_then a b ≡ Equal → b ≡ Equal
second_ties Less b is = absurd (cc)
second_ties Equal b is = is
second_ties Greater b is = absurd (cc)

first_ties : (a b : Ordering) → ordering_then a b ≡ Equal → a ≡ Equal
first_ties Less b is = absurd (cc)
first_ties Equal b is = refl
first_ties Greater b is = absurd (cc)

pub compare_anti : IsAntisymmetric compare_listed
compare_anti a b is =
    let both = second_ties _ _ is in
    ap (λ name. (name, a.1)) (slice_cmp-IsAntisymmetric nat_cmp-IsAntisymmetric a.0 b.0 (first_ties _ _ both))
    ∙ ap (λ n. (b.0, n)) (nat_cmp-IsAntisymmetric a.1 b.1 (second_ties _ _ both))

pub next-offset : {rest later : List (List ℕ × ℕ)} (before offset : ℕ) (e : List ℕ × ℕ) → offset ≡ offset_behind before e.0 → rest ≡ e ∷ later
    → with_offsets before rest ≡ (offset, e) ∷ with_offsets offset later
next-offset {rest} {later} before offset e is next = ap (with_offsets before) next ∙ ap (λ (o : ℕ). (o, e) ∷ with_offsets o later) (sym is)

module _ (offset : ℕ) where
  abbrev pub those_behind : List (ℕ × (List ℕ × ℕ)) → List (ℕ × (List ℕ × ℕ))
  those_behind names = filter (λ e. nat_lt offset e.0) names

  behind-here : (before : ℕ) (e : List ℕ × ℕ) (es : List (List ℕ × ℕ)) → offset < offset_behind before e.0
      → those_behind (with_offsets before (e ∷ es)) ≡ with_offsets before (e ∷ es)
  behind-here before e es lt =
      let next : ℕ = offset_behind before e.0 in
      let passes : nat_lt offset next ≡ true = lt-ltb offset next lt in
      rw passes (ap (λ rest. (next, e) ∷ rest) (behind-all offset next es (omega (arith, lt))))

  not-behind : (before : ℕ) (e : List ℕ × ℕ) (es : List (List ℕ × ℕ)) → offset_behind before e.0 ≤ offset
      → those_behind (with_offsets before (e ∷ es)) ≡ those_behind (with_offsets (offset_behind before e.0) es)
  not-behind before e es le = let fails : nat_lt offset (offset_behind before e.0) ≡ false = le-ltb _ _ le in rw fails refl

  -- the next name stands behind the offset, and so do all from it on
  pub stops-here : {all : List (ℕ × (List ℕ × ℕ))} (before : ℕ) {rest : List (List ℕ × ℕ)} (e : List ℕ × ℕ) (es : List (List ℕ × ℕ))
      → rest ≡ e ∷ es → offset < offset_behind before e.0 → all ≡ those_behind (with_offsets before rest) → all ≡ with_offsets before rest
  stops-here before e es next lt all =
      all ∙ ap (λ names. those_behind (with_offsets before names)) next ∙ behind-here before e es lt ∙ sym (ap (with_offsets before) next)

  -- it doesn't
  pub goes-past : {all : List (ℕ × (List ℕ × ℕ))} (before : ℕ) {rest : List (List ℕ × ℕ)} (e : List ℕ × ℕ) (es : List (List ℕ × ℕ))
      → rest ≡ e ∷ es → offset_behind before e.0 ≤ offset → all ≡ those_behind (with_offsets before rest)
      → all ≡ those_behind (with_offsets (offset_behind before e.0) es)
  goes-past before e es next le all = all ∙ ap (λ names. those_behind (with_offsets before names)) next ∙ not-behind before e es le
