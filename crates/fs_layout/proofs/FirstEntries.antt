-- The first entry of a rising map, and the rest of it.
use Rattle.std.specs.Prelude.{◌≡◌, ◌≢◌, ℕ, ◌<◌, Bool, true, false, ◌&&◌, cond, List, [], ◌∷◌, Some, ◌⊎◌}
use Rattle.std.proofs.Common.{ap, arith, inl, inr, refl}
use Rattle.std.proofs.lemmas.Bool.Decides.{nat_tests}
use Rattle.std.specs.Ordering.{nat_cmp, is_eq, is_lt}
use Rattle.std.specs.FinMap.Entries.{below_all}
use Rattle.fs_layout.specs.Maps.{get}

-- ties of numbers
pub tied : (q k : ℕ) → is_eq (nat_cmp q k) ≡ true → q ≡ k
tied q k e = grind (arith, nat_tests)

pub ties : (q k : ℕ) → q ≡ k → is_eq (nat_cmp q k) ≡ true
ties q k e = grind (arith, nat_tests)

pub apart : (q k : ℕ) → q ≢ k → is_eq (nat_cmp q k) ≡ false
apart q k e = grind (arith, nat_tests)

pub lower : (q k : ℕ) → is_lt (nat_cmp q k) ≡ true → q < k
lower q k e = grind (arith, nat_tests)

pub left : (a b : Bool) → (a && b) ≡ true → a ≡ true
left true b e = refl
left false b e = e

pub right : (a b : Bool) → (a && b) ≡ true → b ≡ true
right true b e = e
right false b e = absurd (cc)

-- an entry is the first, or in the rest
pub in_rest : {X : Type 0} (e : ℕ × X) (es : List (ℕ × X)) (k : ℕ) (v : X) → get nat_cmp (e ∷ es) k ≡ Some v → ((k ≡ e.0) × (v ≡ e.1)) ⊎ (get nat_cmp es k ≡ Some v)
in_rest {X} e es k v is = go (is_eq (nat_cmp k e.0)) refl is
  where
    go : (b : Bool) → is_eq (nat_cmp k e.0) ≡ b → cond b (Some e.1) (get nat_cmp es k) ≡ Some v → ((k ≡ e.0) × (v ≡ e.1)) ⊎ (get nat_cmp es k ≡ Some v)
    go true t i = inl (tied k e.0 t, cc)
    go false t i = inr i

pub at_other : {X : Type 0} (e : ℕ × X) (es : List (ℕ × X)) (k : ℕ) → k ≢ e.0 → get nat_cmp (e ∷ es) k ≡ get nat_cmp es k
at_other e es k ne = ap (λ b. cond b (Some e.1) (get nat_cmp es k)) (apart k e.0 ne)

pub at_same : {X : Type 0} (e : ℕ × X) (es : List (ℕ × X)) → get nat_cmp (e ∷ es) e.0 ≡ Some e.1
at_same e es = ap (λ b. cond b (Some e.1) (get nat_cmp es e.0)) (ties e.0 e.0 refl)

-- keys that stand behind a key are above it
pub above : {X : Type 0} (x : ℕ) (es : List (ℕ × X)) → below_all nat_cmp x es ≡ true → (k : ℕ) (v : X) → get nat_cmp es k ≡ Some v → x < k
above x [] h k v e = absurd (cc)
above x (f ∷ es) h k v e =
    elim (in_rest f es k v e) [
      | inl w ↦ (let low : x < f.0 = lower x f.0 (left _ _ h) in let here : k ≡ f.0 = w.0 in omega arith)
      | inr w ↦ above x es (right _ _ h) k v w
    ]
