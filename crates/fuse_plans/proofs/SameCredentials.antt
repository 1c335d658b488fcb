-- Whether two credentials are the same can be told.
--     same_cred
use Rattle.std.specs.Prelude.{◌≡◌, ℕ, suc, zero, List, [], ◌∷◌, ◌⊎◌}
use Rattle.std.proofs.Common.{refl, ap, ◌∙◌, inl, inr, arith}
use Rattle.fs_cred.specs.declared.caps.Caps.{Caps}
use Rattle.fs_cred.specs.Credentials.{Credential, credential}

-- they are the same, or not
abbrev Tells : {X : Type 0} → X → X → Type 0
Tells x y = (x ≡ y) ⊎ (x ≡ y → ⊥)

same_number : (x y : ℕ) → Tells x y
same_number zero zero = inl refl
same_number zero (suc y) = inr (λ same. absurd (omega (arith, same)))
same_number (suc x) zero = inr (λ same. absurd (omega (arith, same)))
same_number (suc x) (suc y) = elim (same_number x y) [ inl same ↦ inl (ap suc same) | inr other ↦ inr (λ same. other (omega (arith, same))) ]

nothing_same : (x : ℕ) (xs : List ℕ) → [] ≡ x ∷ xs → ⊥
nothing_same x xs same = cc

something_same : (x : ℕ) (xs : List ℕ) → x ∷ xs ≡ [] → ⊥
something_same x xs same = cc

first_same : (x y : ℕ) (xs ys : List ℕ) → x ∷ xs ≡ y ∷ ys → x ≡ y
first_same x y xs ys same = cc

rest_same : (x y : ℕ) (xs ys : List ℕ) → x ∷ xs ≡ y ∷ ys → xs ≡ ys
rest_same x y xs ys same = cc

same_numbers : (xs ys : List ℕ) → Tells xs ys
same_numbers [] [] = inl refl
same_numbers [] (y ∷ ys) = inr (nothing_same y ys)
same_numbers (x ∷ xs) [] = inr (something_same x xs)
same_numbers (x ∷ xs) (y ∷ ys) = elim (same_number x y) [
  | inl same ↦ elim (same_numbers xs ys) [
    | inl others ↦ inl (ap (λ z. z ∷ xs) same ∙ ap (λ zs. y ∷ zs) others)
    | inr other ↦ inr (λ all. other (rest_same x y xs ys all))
  ]
  | inr other ↦ inr (λ all. other (first_same x y xs ys all))
]

abbrev caps_of : ℕ → Caps
caps_of n = record { 0 = n }

pub same_cred : (a b : Credential) → (a ≡ b) ⊎ (a ≡ b → ⊥)
same_cred a b = elim (same_number a.uid b.uid) [
  | inr other ↦ inr (λ same. other (ap (λ c. c.uid) same))
  | inl uid ↦ elim (same_number a.gid b.gid) [
    | inr other ↦ inr (λ same. other (ap (λ c. c.gid) same))
    | inl gid ↦ elim (same_numbers a.groups b.groups) [
      | inr other ↦ inr (λ same. other (ap (λ c. c.groups) same))
      | inl groups ↦ elim (same_number a.caps.0 b.caps.0) [
        | inr other ↦ inr (λ same. other (ap (λ c. c.caps.0) same))
        | inl caps ↦
            inl
            (ap (λ n. credential n a.gid a.groups a.caps) uid ∙ ap (λ n. credential b.uid n a.groups a.caps) gid
            ∙ ap (λ ns. credential b.uid b.gid ns a.caps) groups ∙ ap (λ n. credential b.uid b.gid b.groups (caps_of n)) caps)
      ]
    ]
  ]
]
