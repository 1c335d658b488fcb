-- How a count over numbers in a row follows its parts.
use Rattle.std.proofs.Common.{◌≡◌, ◌≢◌, ℕ, zero, suc, ◌+◌, ◌<◌, ◌≤◌, Bool, true, false, not, cond, refl, sym, ap, ◌∙◌, arith, inl, inr}
use Rattle.std.specs.Prelude.{count_by}
use Rattle.std.specs.List.{range_with_len}
use Rattle.std.proofs.lemmas.Bool.{cases_eq}
use Rattle.std.proofs.lemmas.List.Sums.{sum_by-cons}

unfoldable pub one_if : Bool → ℕ
one_if b = cond b 1 0

pub count_cons : (f : ℕ → Bool) (a n : ℕ) → count_by f (range_with_len a (suc n)) ≡ one_if (f a) + count_by f (range_with_len (a + 1) n)
unfolding one_if
count_cons f a n = sum_by-cons (λ (x : ℕ). cond (f x) 1 0) a (range_with_len (a + 1) n)

-- equal tests count the same
pub count_same : (f g : ℕ → Bool) (a n : ℕ) → ((s : ℕ) → a ≤ s → s < a + n → f s ≡ g s)
    → count_by f (range_with_len a n) ≡ count_by g (range_with_len a n)
count_same f g a zero same = refl
count_same f g a (suc n) same =
    let here : one_if (f a) ≡ one_if (g a) = ap one_if (same a (omega arith) (omega arith)) in
    let rest : count_by f (range_with_len (a + 1) n) ≡ count_by g (range_with_len (a + 1) n) = count_same f g (a + 1) n (λ s le lt. same s (omega arith) (omega arith)) in
    count_cons f a n ∙ omega (arith, here, rest) ∙ sym (count_cons g a n)

one_of : (b : Bool) → one_if b + one_if (not b) ≡ 1
unfolding one_if
one_of true = refl
one_of false = refl

-- each number passes a test or its opposite
pub count_both : (f : ℕ → Bool) (a n : ℕ) → count_by f (range_with_len a n) + count_by (λ s. not (f s)) (range_with_len a n) ≡ n
count_both f a zero = refl
count_both f a (suc n) = omega (arith, count_cons f a n, count_cons (λ s. not (f s)) a n, count_both f (a + 1) n, one_of (f a))

-- one part after the other
pub count_split : (f : ℕ → Bool) (a m n : ℕ) → count_by f (range_with_len a (m + n)) ≡ count_by f (range_with_len a m) + count_by f (range_with_len (a + m) n)
count_split f a zero n =
    let length : zero + n ≡ n = omega arith in
    let start : a + zero ≡ a = omega arith in
    let whole : count_by f (range_with_len a (zero + n)) ≡ count_by f (range_with_len a n) = ap (λ (k : ℕ). count_by f (range_with_len a k)) length in
    let part : count_by f (range_with_len (a + zero) n) ≡ count_by f (range_with_len a n) = ap (λ (k : ℕ). count_by f (range_with_len k n)) start in
    omega (arith, whole, part)
count_split f a (suc m) n =
    let length : suc m + n ≡ suc (m + n) = omega arith in
    let start : a + suc m ≡ a + 1 + m = omega arith in
    let whole : count_by f (range_with_len a (suc m + n)) ≡ count_by f (range_with_len a (suc (m + n))) = ap (λ (k : ℕ). count_by f (range_with_len a k)) length in
    let part : count_by f (range_with_len (a + suc m) n) ≡ count_by f (range_with_len (a + 1 + m) n) = ap (λ (k : ℕ). count_by f (range_with_len k n)) start in
    omega (arith, whole, part, count_cons f a (m + n), count_cons f a m, count_split f (a + 1) m n)

-- numbers are counted from elsewhere
pub count_moved : (f : ℕ → Bool) (a b n : ℕ) → count_by (λ i. f (a + i)) (range_with_len b n) ≡ count_by f (range_with_len (a + b) n)
count_moved f a b zero = refl
count_moved f a b (suc n) =
    let start : a + (b + 1) ≡ a + b + 1 = omega arith in
    let next : count_by f (range_with_len (a + (b + 1)) n) ≡ count_by f (range_with_len (a + b + 1) n) = ap (λ (k : ℕ). count_by f (range_with_len k n)) start in
    count_cons (λ i. f (a + i)) b n ∙ omega (arith, count_moved f a (b + 1) n, next) ∙ sym (count_cons f (a + b) n)

-- one number less passes
pub count_one_more : (f g : ℕ → Bool) (a n x : ℕ) → a ≤ x → x < a + n → f x ≡ true → g x ≡ false → ((s : ℕ) → a ≤ s → s < a + n → s ≢ x → f s ≡ g s)
    → count_by f (range_with_len a n) ≡ count_by g (range_with_len a n) + 1
unfolding one_if
count_one_more f g a zero x le lt yes_f no_g same = absurd (omega arith)
count_one_more f g a (suc n) x le lt yes_f no_g same =
    elim (cases_eq x a) [
      | inl e ↦
          let one : one_if (f a) ≡ 1 = ap (λ (k : ℕ). one_if (f k)) (sym e) ∙ ap one_if yes_f in
          let none : one_if (g a) ≡ 0 = ap (λ (k : ℕ). one_if (g k)) (sym e) ∙ ap one_if no_g in
          let rest : count_by f (range_with_len (a + 1) n) ≡ count_by g (range_with_len (a + 1) n) =
          count_same f g (a + 1) n (λ s low high. same s (omega arith) (omega arith) (λ there. omega arith)) in
          count_cons f a n ∙ omega (arith, one, none, rest) ∙ ap (λ (k : ℕ). k + 1) (sym (count_cons g a n))
      | inr ne ↦
          let here : one_if (f a) ≡ one_if (g a) = ap one_if (same a (omega arith) (omega arith) (λ there. ne (sym there))) in
          let rest : count_by f (range_with_len (a + 1) n) ≡ count_by g (range_with_len (a + 1) n) + 1 =
          count_one_more f g (a + 1) n x (omega arith) (omega arith) yes_f no_g (λ s low high. same s (omega arith) (omega arith)) in
          count_cons f a n ∙ omega (arith, here, rest) ∙ ap (λ (k : ℕ). k + 1) (sym (count_cons g a n))
    ]

-- no number passes
pub count_none : (f : ℕ → Bool) (a n : ℕ) → ((s : ℕ) → a ≤ s → s < a + n → f s ≡ false) → count_by f (range_with_len a n) ≡ 0
unfolding one_if
count_none f a zero none = refl
count_none f a (suc n) none =
    let here : one_if (f a) ≡ 0 = ap one_if (none a (omega arith) (omega arith)) in
    let rest : count_by f (range_with_len (a + 1) n) ≡ 0 = count_none f (a + 1) n (λ s le lt. none s (omega arith) (omega arith)) in
    count_cons f a n ∙ omega (arith, here, rest)

-- all numbers pass
pub count_all : (a n : ℕ) → count_by (λ (s : ℕ). true) (range_with_len a n) ≡ n
unfolding one_if
count_all a zero = refl
count_all a (suc n) = let rest : count_by (λ (s : ℕ). true) (range_with_len (a + 1) n) ≡ n = count_all (a + 1) n in count_cons (λ (s : ℕ). true) a n ∙ omega (arith, rest)

one_at_most : (b : Bool) → one_if b ≤ 1
unfolding one_if
one_at_most true = omega arith
one_at_most false = omega arith

-- at most all numbers pass
pub count_at_most : (f : ℕ → Bool) (a n : ℕ) → count_by f (range_with_len a n) ≤ n
count_at_most f a zero = omega arith
count_at_most f a (suc n) = omega (arith, count_cons f a n, one_at_most (f a), count_at_most f (a + 1) n)
