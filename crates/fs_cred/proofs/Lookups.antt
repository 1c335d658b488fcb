-- Among entries whose ids rise, the one with an id is what a look-up finds.
use Rattle.std.proofs.Common.{◌≡◌, ℕ, zero, suc, ◌<◌, ◌==◌, Bool, true, false, List, [], ◌∷◌, Some, None, cond, length, refl, ap, ◌∙◌, subst, arith, inl, inr}
use Rattle.std.specs.Prelude.{Contains, ◌⊎◌}
use Rattle.std.specs.List.{AllByRecursion}
use Rattle.std.proofs.lemmas.List.Elements.{All-from_recursion, All-contains}
use Rattle.std.proofs.lemmas.Bool.Decides.{nat_tests}
use Rattle.posix_acl.specs.declared.entry.Perms.{Perms}
use Rattle.posix_acl.specs.AccessList.{IdsRise}
use Rattle.fs_cred.specs.Verdicts.{perms_named}

pub Contains-head : {X : Type 0} (x : X) (xs : List X) → Contains (x ∷ xs) x
Contains-head x xs = (0, omega arith, refl)

pub Contains-tail : {X : Type 0} (x y : X) (xs : List X) → Contains xs y → Contains (x ∷ xs) y
Contains-tail x y xs c = (suc c.0, omega arith, c.2)

pub Contains-cons_cases : {X : Type 0} (x y : X) (xs : List X) → Contains (x ∷ xs) y → (x ≡ y) ⊎ Contains xs y
Contains-cons_cases {X} x y xs c = go c.0 c.1 c.2
  where
    go : (k : ℕ) → k < length (x ∷ xs) → Rattle.std.specs.List.slice_index_or (x ∷ xs) k y ≡ y → (x ≡ y) ⊎ Contains xs y
    go zero l e = inl e
    go (suc k) l e = inr (k, omega arith, e)

-- the ids behind an entry are above its own
pub above : (x : ℕ) (xs : List (ℕ × Perms)) (id : ℕ) (p : Perms) → AllByRecursion (λ y. x < y.0) xs → Contains xs (id, p) → x < id
above x xs id p rise has = All-contains (λ (y : ℕ × Perms). x < y.0) xs (id, p) (All-from_recursion (λ (y : ℕ × Perms). x < y.0) xs rise) has

pub Contains-from_named : (id : ℕ) (xs : List (ℕ × Perms)) (p : Perms) → perms_named id xs ≡ Some p → Contains xs (id, p)
Contains-from_named id [] p e = absurd (cc)
Contains-from_named id (x ∷ xs) p e = go (x.0 == id) refl e (Contains-from_named id xs p)
  where
    go : (b : Bool) → (x.0 == id) ≡ b → cond b (Some x.1) (perms_named id xs) ≡ Some p → (perms_named id xs ≡ Some p → Contains xs (id, p)) → Contains (x ∷ xs) (id, p)
    go true same found rest =
        let at : x.0 ≡ id = grind (arith, nat_tests) in
        let is : x.1 ≡ p = cc in
        subst (λ y. Contains (x ∷ xs) y) (ap (λ i. (i, x.1)) at ∙ ap (λ q. (id, q)) is) (Contains-head x xs)
    go false other found rest = Contains-tail x (id, p) xs (rest found)

pub named_from_Contains : (id : ℕ) (xs : List (ℕ × Perms)) (p : Perms) → IdsRise xs → Contains xs (id, p) → perms_named id xs ≡ Some p
named_from_Contains id [] p rise has = absurd (omega (arith, has.1))
named_from_Contains id (x ∷ xs) p rise has = elim (Contains-cons_cases x (id, p) xs has) [
  | inl here ↦ (let same : (x.0 == id) ≡ true = (let at : x.0 ≡ id = ap (λ y. y.0) here in grind (arith, nat_tests)) in
      rw same (ap (λ y. Some y.1) here))
  | inr later ↦ (let apart : (x.0 == id) ≡ false = (let low : x.0 < id = above x.0 xs id p rise.0 later in grind (arith, nat_tests)) in
      rw apart (named_from_Contains id xs p rise.1 later))
]

pub nobody_named : (id : ℕ) (xs : List (ℕ × Perms)) → IdsRise xs → perms_named id xs ≡ None → (p : Perms) → ¬ (Contains xs (id, p))
nobody_named id xs rise none p has = let some : perms_named id xs ≡ Some p = named_from_Contains id xs p rise has in cc
