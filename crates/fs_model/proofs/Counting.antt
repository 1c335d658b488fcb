-- Numbers that a list names are at most as many as the list is long.
use Rattle.std.specs.Prelude.{◌≡◌, ◌≢◌, ℕ, zero, suc, ◌+◌, ◌<◌, ◌≤◌, Bool, true, false, ◌||◌, nat_eq, List, [], ◌∷◌, ◌++◌, length, ◌⊎◌, count_by}
use Rattle.std.proofs.Common.{refl, ◌∙◌, arith, inl, inr}
use Rattle.std.specs.List.{range_with_len}
use Rattle.std.proofs.lemmas.Bool.{cases_eq, eq-eqb, ne_eqb}
use Rattle.fs_layout.proofs.Counting.{one_if, count_cons, count_same, count_all}

-- ---- the numbers that a list names

abbrev pub Names : List ℕ → ℕ → Type 0
Names [] s = ⊥
Names (x ∷ xs) s = (s ≡ x) ⊎ Names xs s

pub in_first : (xs ys : List ℕ) (s : ℕ) → Names xs s → Names (xs ++ ys) s
in_first [] ys s i = absurd i
in_first (x ∷ xs) ys s (inl e) = inl e
in_first (x ∷ xs) ys s (inr i) = inr (in_first xs ys s i)

pub in_second : (xs ys : List ℕ) (s : ℕ) → Names ys s → Names (xs ++ ys) s
in_second [] ys s i = i
in_second (x ∷ xs) ys s i = inr (in_second xs ys s i)

-- ---- counts over a range

one_if_more : (b c : Bool) → (b ≡ true → c ≡ true) → one_if b ≤ one_if c
unfolding one_if
one_if_more true true h = omega arith
one_if_more true false h = absurd (let e : false ≡ true = h refl in cc)
one_if_more false c h = omega arith

-- what passes f passes g
count_within : (f g : ℕ → Bool) (a n : ℕ) → ((s : ℕ) → a ≤ s → f s ≡ true → g s ≡ true)
    → count_by f (range_with_len a n) ≤ count_by g (range_with_len a n)
count_within f g a zero h = omega arith
count_within f g a (suc n) h =
    let here = one_if_more (f a) (g a) (h a (omega arith)) in
    let rest = count_within f g (a + 1) n (λ s le e. h s (omega arith) e) in
    omega (arith, count_cons f a n, count_cons g a n, here, rest)

-- but for one number
count_within_but_one : (f g : ℕ → Bool) (x a n : ℕ) → ((s : ℕ) → s ≢ x → f s ≡ true → g s ≡ true)
    → count_by f (range_with_len a n) ≤ count_by g (range_with_len a n) + 1
unfolding one_if
count_within_but_one f g x a zero h = omega arith
count_within_but_one f g x a (suc n) h = elim (cases_eq a x) [
  | inl e ↦
      let rest = count_within f g (a + 1) n (λ s le t. h s (λ i. omega (arith, le, e, i)) t) in
      omega (arith, count_cons f a n, count_cons g a n, one_if_more (f a) true (λ t. refl), rest)
  | inr ne ↦
      let here = one_if_more (f a) (g a) (h a ne) in
      let rest = count_within_but_one f g x (a + 1) n h in
      omega (arith, count_cons f a n, count_cons g a n, here, rest)
]

count_each : (g : ℕ → Bool) (a n : ℕ) → ((s : ℕ) → a ≤ s → s < a + n → g s ≡ true) → count_by g (range_with_len a n) ≡ n
count_each g a n h = count_same g (λ s. true) a n h ∙ count_all a n

pub or_true : (b c : Bool) → (b ≡ true) ⊎ (c ≡ true) → (b || c) ≡ true
or_true true c h = refl
or_true false true h = refl
or_true false false (inl e) = e
or_true false false (inr e) = e

from_or : (b c : Bool) → (b || c) ≡ true → c ≡ false → b ≡ true
from_or true c e f = refl
from_or false true e f = absurd cc
from_or false false e f = e

-- Each number of a range passes a test, or a list names it: so many pass or are named.
pub passes_or_named : (xs : List ℕ) (g : ℕ → Bool) (a n : ℕ) → ((s : ℕ) → a ≤ s → s < a + n → (g s ≡ true) ⊎ Names xs s)
    → n ≤ count_by g (range_with_len a n) + length xs
passes_or_named [] g a n h = let all = count_each g a n (λ s le lt. elim (h s le lt) [ inl e ↦ e | inr i ↦ absurd i ]) in omega (arith, all)
passes_or_named (x ∷ xs) g a n h =
    let rest = passes_or_named xs (λ s. g s || nat_eq s x) a n (λ s le lt. elim (h s le lt) [
      | inl e ↦ inl (or_true (g s) (nat_eq s x) (inl e))
      | inr (inl e) ↦ inl (or_true (g s) (nat_eq s x) (inr (eq-eqb s x e)))
      | inr (inr i) ↦ inr i
    ]) in
    let less = count_within_but_one (λ s. g s || nat_eq s x) g x a n (λ s ne e. from_or (g s) (nat_eq s x) e (ne_eqb s x ne)) in
    omega (arith, rest, less)
