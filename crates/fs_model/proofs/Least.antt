-- The lookups of a walk are refused by the least of them that refuses, and where they are not refused none refuses.
use Rattle.std.specs.Prelude.{◌≡◌, ℕ, zero, suc, ◌+◌, ◌<◌, List, [], ◌∷◌, slice_get, Some, None}
use Rattle.std.proofs.Common.{refl, sym, ap, arith, ◌∙◌}
use Rattle.fs_cred.specs.declared.refusal.Refusal.{Refusal}
use Rattle.fs_cred.specs.Credentials.{Credential}
use Rattle.fs_model.specs.Trees.{Tree}
use Rattle.fs_model.specs.Demands.{Demand, or_else}
use Rattle.fs_model.specs.Trails.{Lookup}
use Rattle.fs_model.specs.Walks.{lookup_refusal, least_refusal, IsLeastRefusal}

module _ (cred : Credential) (t : Tree) (walk : ℕ) where
  -- as `IsLeastRefusal`, with the lookups counted from i
  abbrev IsLeastFrom : ℕ → List Lookup → Refusal → Type 0
  IsLeastFrom i lookups r =
      (k : ℕ) × (l : Lookup) × (slice_get lookups k ≡ Some l) × (lookup_refusal cred t walk (i + k) l ≡ Some r)
      × ((j : ℕ) (u : Lookup) → j < k → slice_get lookups j ≡ Some u → lookup_refusal cred t walk (i + j) u ≡ None)

  least_from : (i : ℕ) (lookups : List Lookup) (r : Refusal) → least_refusal cred t walk i lookups ≡ Some r → IsLeastFrom i lookups r
  least_from i [] r h = absurd cc
  least_from i (l ∷ lookups) r h = go (lookup_refusal cred t walk i l) refl h (λ g. least_from (i + 1) lookups r g)
    where
      at : (k : ℕ) (u : Lookup) → lookup_refusal cred t walk (i + suc k) u ≡ lookup_refusal cred t walk (i + 1 + k) u
      at k u = ap (λ n. lookup_refusal cred t walk n u) (omega arith)

      here : (u : Lookup) → lookup_refusal cred t walk (i + zero) u ≡ lookup_refusal cred t walk i u
      here u = ap (λ n. lookup_refusal cred t walk n u) (omega arith)

      go : (d : Demand) → lookup_refusal cred t walk i l ≡ d → or_else d (least_refusal cred t walk (i + 1) lookups) ≡ Some r
          → (least_refusal cred t walk (i + 1) lookups ≡ Some r → IsLeastFrom (i + 1) lookups r) → IsLeastFrom i (l ∷ lookups) r
      go (Some q) e f ih = (0, l, refl, here l ∙ e ∙ f, λ j u le g. absurd (omega arith))
      go None e f ih =
          let rest = ih f in
          (suc rest.0, rest.1, rest.2, at rest.0 rest.1 ∙ rest.3, lower_ones rest)
        where
          lower_ones : (rest : IsLeastFrom (i + 1) lookups r) → (j : ℕ) (u : Lookup) → j < suc rest.0
              → slice_get (l ∷ lookups) j ≡ Some u → lookup_refusal cred t walk (i + j) u ≡ None
          lower_ones rest zero u le g = here u ∙ ap (lookup_refusal cred t walk i) (let same : l ≡ u = cc in sym same) ∙ e
          lower_ones rest (suc j) u le g = at j u ∙ rest.4 j u (let lt : j < rest.0 = omega arith in lt) g

  pub refuses_least : (lookups : List Lookup) (r : Refusal) → least_refusal cred t walk 0 lookups ≡ Some r → IsLeastRefusal cred t walk lookups r
  refuses_least lookups r h =
      let from = least_from 0 lookups r h in
      record {
        number = from.0;
        lookup = from.1;
        is_there = from.2;
        refuses = ap (λ n. lookup_refusal cred t walk n from.1) (zero_before from.0) ∙ from.3;
        none_before = λ j u lt g. ap (λ n. lookup_refusal cred t walk n u) (zero_before j) ∙ from.4 j u lt g;
      }
    where
      zero_before : (k : ℕ) → k ≡ 0 + k
      zero_before k = omega arith

  none_from : (i : ℕ) (lookups : List Lookup) → least_refusal cred t walk i lookups ≡ None → (k : ℕ) (u : Lookup)
      → slice_get lookups k ≡ Some u → lookup_refusal cred t walk (i + k) u ≡ None
  none_from i [] h k u g = absurd cc
  none_from i (l ∷ lookups) h k u g = go (lookup_refusal cred t walk i l) refl h (λ f j r. none_from (i + 1) lookups f j u r) k g
    where
      go : (d : Demand) → lookup_refusal cred t walk i l ≡ d → or_else d (least_refusal cred t walk (i + 1) lookups) ≡ None
          → (least_refusal cred t walk (i + 1) lookups ≡ None → (j : ℕ) → slice_get lookups j ≡ Some u → lookup_refusal cred t walk (i + 1 + j) u ≡ None)
          → (k : ℕ) → slice_get (l ∷ lookups) k ≡ Some u → lookup_refusal cred t walk (i + k) u ≡ None
      go (Some q) e f ih k g = absurd cc
      go None e f ih zero g =
          ap (λ n. lookup_refusal cred t walk n u) (let same : i + zero ≡ i = omega arith in same)
          ∙ ap (lookup_refusal cred t walk i) (let same : l ≡ u = cc in sym same) ∙ e
      go None e f ih (suc k) g = ap (λ n. lookup_refusal cred t walk n u) (let same : i + suc k ≡ i + 1 + k = omega arith in same) ∙ ih f k g

  pub none_refuses : (lookups : List Lookup) → least_refusal cred t walk 0 lookups ≡ None → (k : ℕ) (u : Lookup)
      → slice_get lookups k ≡ Some u → lookup_refusal cred t walk k u ≡ None
  none_refuses lookups h k u g =
      ap (λ n. lookup_refusal cred t walk n u) (let same : k ≡ 0 + k = omega arith in same) ∙ none_from 0 lookups h k u g
