-- Decimal numbers: what is read is what is written.
use Rattle.std.proofs.Common.{◌≡◌, ◌≢◌, ℕ, ◌^◌, ◌<◌, true, nat_lt, List, length, suc, zero, get_or, Result, Ok, Err, refl, sym, ap, ◌∙◌, inl, inr, arith, rules}
use borrow.Author.Tests.{ltb-true}
use Rattle.std.specs.Fmt.{decimal}
use Rattle.std.specs.Str.Parse.{ParsesUnsigned, AllDigits, digits_value}
use Rattle.std.proofs.lemmas.Bool.{cases_Bool}
use Rattle.std.proofs.lemmas.Fmt.{decimal_nonempty, digits_decimal, first_decimal, decimal_digit, decimal-digits_value, digits_value-decimal, parse-decimal}
use Rattle.std.proofs.lemmas.Result.{OkIff-at_ok}
use Rattle.std.proofs.lemmas.Slice.Eq.{bytes_eq-Decides}
use Rattle.std.proofs.lemmas.Str.Parse.{IsNumeralModel, numerals_by_value, tells_digits, digit_at, parse_plain}
use Rattle.posix_acl.specs.Numbers.{StartsPlainly}
use Rattle.fs_lines.specs.declared.line.LineFault.TheVariants.{BadNumber}
use Rattle.fs_lines.specs.Words.{is_decimal, number_of}

own : IsNumeralModel (AllDigits 10) (digits_value 10)
own = numerals_by_value (AllDigits 10) tells_digits

pub decimal_starts : (n : ℕ) → n < 2 ^ 64 → StartsPlainly (decimal n)
decimal_starts n fits =
    let some : 0 < length (decimal n) = decimal_nonempty n fits in
    let digit = digit_at (decimal n) 0 (digits_decimal own n fits) some in
    record { some = some; low = digit.0; high = digit.1; alone = alone n fits }
  where
    alone : (n : ℕ) → n < 2 ^ 64 → get_or (decimal n) 0 0 ≡ 48 → length (decimal n) ≡ 1
    alone zero fits first = ap length (decimal_digit 0 (omega arith))
    alone (suc n) fits first = let above = first_decimal (suc n) (omega arith) fits in absurd (omega arith)

-- a number that is written so is read
pub is_number : (bits n : ℕ) (word : List ℕ) → n < 2 ^ bits → n < 2 ^ 64 → word ≡ decimal n → number_of bits word ≡ Ok n
unfolding number_of
is_number bits n word fits small same =
    let value : digits_value 10 word ≡ n = ap (digits_value 10) same ∙ digits_value-decimal own n small in
    let plain : is_decimal word ≡ true = (bytes_eq-Decides word (decimal (digits_value 10 word))).1 (same ∙ sym (ap decimal value)) in
    let below : nat_lt (digits_value 10 word) (2 ^ bits) ≡ true = rw value (search (rules, arith)) in
    rw (plain, below, value) refl

-- and nothing else
pub no_number : (bits : ℕ) (word : List ℕ) → ((n : ℕ) → n < 2 ^ bits → word ≢ decimal n) → number_of bits word ≡ Err BadNumber
unfolding number_of
no_number bits word none =
    elim (cases_Bool (is_decimal word)) [
      | inl plain ↦ elim (cases_Bool (nat_lt (digits_value 10 word) (2 ^ bits))) [
        | inl below ↦ absurd (none (digits_value 10 word) (ltb-true _ _ below) ((bytes_eq-Decides word (decimal (digits_value 10 word))).0 plain))
        | inr above ↦ rw (plain, above) refl
      ]
      | inr other ↦ rw other refl
    ]

-- what is parsed is a number that is written so
pub parsed : {E : Type 0} (bits : ℕ) (bs : List ℕ) (n : ℕ) (r : Result ℕ E) → ParsesUnsigned bits 10 bs r → r ≡ Ok n → StartsPlainly bs
    → ((m : ℕ) → m < 2 ^ bits → m < 2 ^ 64) → number_of bits bs ≡ Ok n
parsed {E} bits bs n r parses is starts small =
    let low = starts.low in
    let high = starts.high in
    let plain : (AllDigits 10 bs × (0 < length bs) × (digits_value 10 bs < 2 ^ bits)) × (n ≡ digits_value 10 bs) =
    OkIff-at_ok r _ _ n (parse_plain own bits bs r parses (λ plus. absurd (omega arith))) is in
    let same : decimal (digits_value 10 bs) ≡ bs = decimal-digits_value own bs plain.0.0 plain.0.1 starts.alone (small _ plain.0.2) in
    is_number bits n bs (rw plain.1 plain.0.2) (small _ (rw plain.1 plain.0.2)) (sym same ∙ ap decimal (sym plain.1))

-- and what isn't parsed is none
pub not_parsed : {E : Type 0} (bits : ℕ) (bs : List ℕ) (e : E) (r : Result ℕ E) → ParsesUnsigned bits 10 bs r → r ≡ Err e
    → ((m : ℕ) → m < 2 ^ bits → m < 2 ^ 64) → number_of bits bs ≡ Err BadNumber
not_parsed {E} bits bs e r parses is small =
    no_number bits bs (λ n fits same. let read : r ≡ Ok n = parse-decimal bits n bs r fits (small n fits) same parses in absurd (cc))
