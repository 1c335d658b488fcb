-- Sums of the first values of a function.
use Rattle.std.specs.Prelude.{◌≡◌, ℕ, zero, suc, ◌+◌, ◌*◌, ◌<◌, ◌≤◌, [], ◌⊎◌, sum_by}
use Rattle.std.specs.List.{range_with_len}
use Rattle.std.proofs.Common.{refl, sym, ap, arith, ◌∙◌, inl, inr}
use Rattle.std.proofs.lemmas.Bool.{cases_eq, cases_lt}
use Rattle.std.proofs.lemmas.List.Sums.{sum_by-cons}
use Rattle.fs_check.specs.Counts.{sum_to}

pub sum_more : (f : ℕ → ℕ) (a n : ℕ) → sum_by f (range_with_len a (suc n)) ≡ sum_by f (range_with_len a n) + f (a + n)
sum_more f a zero = let one = sum_by-cons f a [] in let same = ap f (let e : a + 0 ≡ a = omega arith in e) in omega (arith, one, same)
sum_more f a (suc n) =
    let whole = sum_by-cons f a (range_with_len (a + 1) (suc n)) in
    let rest = sum_more f (a + 1) n in
    let part = sum_by-cons f a (range_with_len (a + 1) n) in
    let same = ap f (let e : a + 1 + n ≡ a + suc n = omega arith in e) in
    omega (arith, whole, rest, part, same)

pub sum_zero : (f : ℕ → ℕ) → sum_to f 0 ≡ 0
unfolding sum_to
sum_zero f = refl

pub sum_suc : (f : ℕ → ℕ) (n : ℕ) → sum_to f (suc n) ≡ sum_to f n + f n
unfolding sum_to
sum_suc f n = sum_more f 0 n ∙ ap (λ k. sum_by f (range_with_len 0 n) + f k) (let e : 0 + n ≡ n = omega arith in e)

pub sum_next : (f : ℕ → ℕ) (n : ℕ) → sum_to f (n + 1) ≡ sum_to f n + f n
sum_next f n = ap (sum_to f) (let e : n + 1 ≡ suc n = omega arith in e) ∙ sum_suc f n

pub sum_one : (f : ℕ → ℕ) → sum_to f 1 ≡ f 0
sum_one f = let more = sum_suc f 0 in let none = sum_zero f in omega (arith, more, none)

pub sum_same : (f g : ℕ → ℕ) (n : ℕ) → ((i : ℕ) → i < n → f i ≡ g i) → sum_to f n ≡ sum_to g n
sum_same f g zero each = sum_zero f ∙ sym (sum_zero g)
sum_same f g (suc n) each =
    let left = sum_suc f n in
    let right = sum_suc g n in
    let rest = sum_same f g n (λ i lt. each i (omega (arith, lt))) in
    let last = each n (omega arith) in
    omega (arith, left, right, rest, last)

pub sum_none : (f : ℕ → ℕ) (n : ℕ) → ((i : ℕ) → i < n → f i ≡ 0) → sum_to f n ≡ 0
sum_none f zero each = sum_zero f
sum_none f (suc n) each =
    let more = sum_suc f n in
    let rest = sum_none f n (λ i lt. each i (omega (arith, lt))) in
    let last = each n (omega arith) in
    omega (arith, more, rest, last)

pub sum_split : (f : ℕ → ℕ) (a b : ℕ) → sum_to f (a + b) ≡ sum_to f a + sum_to (λ i. f (a + i)) b
sum_split f a zero = let none = sum_zero (λ i. f (a + i)) in let same = ap (sum_to f) (let e : a + 0 ≡ a = omega arith in e) in omega (arith, none, same)
sum_split f a (suc b) =
    let same = ap (sum_to f) (let e : a + suc b ≡ suc (a + b) = omega arith in e) in
    let more = sum_suc f (a + b) in
    let rest = sum_split f a b in
    let last = sum_suc (λ i. f (a + i)) b in
    omega (arith, same, more, rest, last)

pub sum_both : (f g : ℕ → ℕ) (n : ℕ) → sum_to (λ i. f i + g i) n ≡ sum_to f n + sum_to g n
sum_both f g zero = let a = sum_zero f in let b = sum_zero g in let c = sum_zero (λ i. f i + g i) in omega (arith, a, b, c)
sum_both f g (suc n) =
    let a = sum_suc f n in
    let b = sum_suc g n in
    let c = sum_suc (λ i. f i + g i) n in
    let rest = sum_both f g n in
    omega (arith, a, b, c, rest)

-- row by row, each of this width
pub sum_rows : (f : ℕ → ℕ) (width n : ℕ) → sum_to f (width * n) ≡ sum_to (λ j. sum_to (λ k. f (width * j + k)) width) n
sum_rows f width zero =
    let none = sum_zero f in
    let rows = sum_zero (λ j. sum_to (λ k. f (width * j + k)) width) in
    let same = ap (sum_to f) (let e : width * 0 ≡ 0 = omega arith in e) in
    omega (arith, none, rows, same)
sum_rows f width (suc n) =
    let same = ap (sum_to f) (let e : width * suc n ≡ width * n + width = omega arith in e) in
    let split = sum_split f (width * n) width in
    let rest = sum_rows f width n in
    let row = sum_suc (λ j. sum_to (λ k. f (width * j + k)) width) n in
    omega (arith, same, split, rest, row)

-- ---- what a sum has

pub sum_has : (f : ℕ → ℕ) (n i : ℕ) → i < n → f i ≤ sum_to f n
sum_has f zero i lt = absurd (omega (arith, lt))
sum_has f (suc n) i lt =
    let more = sum_suc f n in
    elim (cases_eq i n) [
      | inl e ↦ let same = ap f e in omega (arith, more, same)
      | inr ne ↦ let rest = sum_has f n i (omega (arith, lt, ne)) in omega (arith, more, rest)
    ]

pub sum_has_two : (f : ℕ → ℕ) (n i j : ℕ) → i < j → j < n → f i + f j ≤ sum_to f n
sum_has_two f zero i j low lt = absurd (omega (arith, lt))
sum_has_two f (suc n) i j low lt =
    let more = sum_suc f n in
    elim (cases_eq j n) [
      | inl e ↦ let same = ap f e in let rest = sum_has f n i (omega (arith, low, e)) in omega (arith, more, same, rest)
      | inr ne ↦ let rest = sum_has_two f n i j low (omega (arith, lt, ne)) in omega (arith, more, rest)
    ]

-- something is counted
pub sum_some : (f : ℕ → ℕ) (n : ℕ) → 1 ≤ sum_to f n → (i : ℕ) × (i < n) × (1 ≤ f i)
sum_some f zero some = absurd (let none = sum_zero f in omega (arith, some, none))
sum_some f (suc n) some =
    let more = sum_suc f n in
    elim (cases_lt (f n) 1) [
      | inl none ↦ let rest = sum_some f n (omega (arith, some, more, none)) in let lt = rest.1 in (rest.0, omega (arith, lt), rest.2)
      | inr here ↦ (n, omega arith, here)
    ]

-- something is counted twice, or two things are counted
pub sum_two : (f : ℕ → ℕ) (n : ℕ) → 2 ≤ sum_to f n → ((i : ℕ) × (i < n) × (2 ≤ f i)) ⊎ ((i : ℕ) × (j : ℕ) × (i < j) × (j < n) × (1 ≤ f i) × (1 ≤ f j))
sum_two f zero some = absurd (let none = sum_zero f in omega (arith, some, none))
sum_two f (suc n) some =
    let more = sum_suc f n in
    elim (cases_lt (f n) 2) [
      | inl few ↦ elim (cases_lt (f n) 1) [
        | inl none ↦ elim (sum_two f n (omega (arith, some, more, none))) [
          | inl one ↦ let lt = one.1 in inl (one.0, omega (arith, lt), one.2)
          | inr both ↦ let lt = both.3 in inr (both.0, both.1, both.2, omega (arith, lt), both.4, both.5)
        ]
        | inr here ↦ let rest = sum_some f n (omega (arith, some, more, few)) in inr (rest.0, n, rest.1, omega arith, rest.2, here)
      ]
      | inr here ↦ inl (n, omega arith, here)
    ]
