-- How a size is split into its digits and its unit.
use Rattle.std.specs.Prelude.{◌≡◌, ◌<◌, ◌≤◌, ◌==◌, ◌*◌, ◌++◌, ◌∷◌, ℕ, Bool, true, false, List, [], cond, drop, fold}
use Rattle.std.proofs.Common.{◌∙◌, sym, refl, ap, ap₂, subst, arith, inl, inr}
use Rattle.std.specs.Char.{digit_value}
use Rattle.std.specs.Str.Parse.{AllDigits, IsNumeral, digits_value, without_leading_plus}
use Rattle.std.proofs.lemmas.List.{append_cancel_right}
use Rattle.std.proofs.lemmas.List.Sums.{fold_push}
use Rattle.fs_command.specs.Sizes.{IsOnlySplit, IsSize, IsUnitOf, units}

last_is : (xs ys : List ℕ) (c d : ℕ) → xs ++ (c ∷ []) ≡ ys ++ (d ∷ []) → c ≡ d
last_is xs ys c d e = sym (fold_push (λ a x. x) 0 xs c) ∙ ap (fold (λ a x. x) 0) e ∙ fold_push (λ a x. x) 0 ys d

front_is : (xs ys : List ℕ) (c d : ℕ) → xs ++ (c ∷ []) ≡ ys ++ (d ∷ []) → xs ≡ ys
front_is xs ys c d e = append_cancel_right xs ys (c ∷ []) (e ∙ ap (λ x. ys ++ (x ∷ [])) (sym (last_is xs ys c d e)))

bare : (xs : List ℕ) → xs ++ [] ≡ xs
bare [] = refl
bare (x ∷ xs) = ap (λ ys. x ∷ ys) (bare xs)

-- ---- the digits end in a digit

last_digit : (xs : List ℕ) (c : ℕ) → AllDigits 10 (xs ++ (c ∷ [])) → digit_value c < 10
last_digit [] c h = h.0
last_digit (x ∷ xs) c h = last_digit xs c h.1

ends_in_digit : (xs : List ℕ) (c : ℕ) → IsNumeral 10 (without_leading_plus (xs ++ (c ∷ []))) → digit_value c < 10
ends_in_digit [] c h = go (c == 43) h
  where
    go : (b : Bool) → IsNumeral 10 (drop (cond b 1 0) (c ∷ [])) → digit_value c < 10
    go true h = absurd (omega (arith, h.0))
    go false h = h.1.0
ends_in_digit (x ∷ xs) c h = go (x == 43) h
  where
    go : (b : Bool) → IsNumeral 10 (drop (cond b 1 0) (x ∷ xs ++ (c ∷ []))) → digit_value c < 10
    go true h = last_digit xs c h.1
    go false h = last_digit xs c h.1.1

-- ---- one way to split

-- a text that ends in the letter c, which is of a unit of `own` bytes
module _ (c own : ℕ) (no_digit : 10 ≤ digit_value c) (k : 75 ≡ c → 1024 ≡ own) (m : 77 ≡ c → 1048576 ≡ own) (g : 71 ≡ c → 1073741824 ≡ own) where
  at_letter : (text front : List ℕ) → text ≡ front ++ (c ∷ []) → IsOnlySplit text front own
  at_letter text front ends digits unit split numeral = go split.is_unit
    where
      joined : (letters : List ℕ) → split.suffix ≡ letters → digits ++ letters ≡ front ++ (c ∷ [])
      joined letters e = ap (λ s. digits ++ s) (sym e) ∙ sym split.splits ∙ ends

      go : IsUnitOf units split.suffix unit → (digits ≡ front) × (unit ≡ own)
      go (inl x) = (front_is digits front 75 c (joined _ x.0), x.1 ∙ k (last_is digits front 75 c (joined _ x.0)))
      go (inr (inl x)) = (front_is digits front 77 c (joined _ x.0), x.1 ∙ m (last_is digits front 77 c (joined _ x.0)))
      go (inr (inr (inl x))) = (front_is digits front 71 c (joined _ x.0), x.1 ∙ g (last_is digits front 71 c (joined _ x.0)))
      go (inr (inr (inr (inl x)))) =
          let digit = ends_in_digit front c (subst (λ (ds : List ℕ). IsNumeral 10 (without_leading_plus ds)) (sym (bare digits) ∙ joined _ x.0) numeral) in
          absurd (omega (arith, digit, no_digit))
      go (inr (inr (inr (inr x)))) = absurd x

pub at_kibi : (text front : List ℕ) → text ≡ front ++ (75 ∷ []) → IsOnlySplit text front 1024
at_kibi = at_letter 75 1024 (omega arith) (λ e. refl) (λ e. absurd (omega (arith, e))) (λ e. absurd (omega (arith, e)))

pub at_mebi : (text front : List ℕ) → text ≡ front ++ (77 ∷ []) → IsOnlySplit text front 1048576
at_mebi = at_letter 77 1048576 (omega arith) (λ e. absurd (omega (arith, e))) (λ e. refl) (λ e. absurd (omega (arith, e)))

pub at_gibi : (text front : List ℕ) → text ≡ front ++ (71 ∷ []) → IsOnlySplit text front 1073741824
at_gibi = at_letter 71 1073741824 (omega arith) (λ e. absurd (omega (arith, e))) (λ e. absurd (omega (arith, e))) (λ e. refl)

-- ---- sizes that are none

-- a unit is a byte or more
not_less : (n unit : ℕ) (suffix : List ℕ) → IsUnitOf units suffix unit → n ≤ n * unit
not_less n unit suffix (inl x) = rw x.1 (omega arith)
not_less n unit suffix (inr (inl x)) = rw x.1 (omega arith)
not_less n unit suffix (inr (inr (inl x))) = rw x.1 (omega arith)
not_less n unit suffix (inr (inr (inr (inl x)))) = rw x.1 (omega arith)
not_less n unit suffix (inr (inr (inr (inr x)))) = absurd x

-- what a size of the text would be, by the only way to split it
pub size_is : (text front : List ℕ) (own sectors : ℕ) → IsOnlySplit text front own → IsSize text sectors
    → IsNumeral 10 (without_leading_plus front)
    × (524288 ≤ digits_value 10 (without_leading_plus front) * own) × (digits_value 10 (without_leading_plus front) * own ≤ 8589934592)
    × (digits_value 10 (without_leading_plus front) ≤ 8589934592)
size_is text front own sectors only size =
    let says = size.says in
    let same = only says.digits says.unit says.splits says.numeral in
    let counts = says.counts ∙ ap₂ (λ (ds : List ℕ) (u : ℕ). digits_value 10 (without_leading_plus ds) * u) same.0 same.1 in
    let least = subst (λ (n : ℕ). 524288 ≤ n) counts size.least in
    let most = subst (λ (n : ℕ). n ≤ 8589934592) counts size.most in
    let small = subst (λ (u : ℕ). digits_value 10 (without_leading_plus front) ≤ digits_value 10 (without_leading_plus front) * u) same.1
    (not_less (digits_value 10 (without_leading_plus front)) says.unit says.splits.suffix says.splits.is_unit) in
    (subst (λ (ds : List ℕ). IsNumeral 10 (without_leading_plus ds)) same.0 says.numeral, least, most, omega (arith, small, most))
