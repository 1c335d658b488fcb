-- Decimal ids: what is read is what is written.
use Rattle.std.proofs.Common.{◌≡◌, ℕ, ◌^◌, ◌<◌, true, false, not, List, length, suc, zero, get_or, eqb, Result, Ok, Err, IfSome, refl, sym, ap, ◌∙◌, arith}
use Rattle.std.specs.Fmt.{decimal}
use Rattle.std.specs.Result.{result_ok}
use Rattle.std.specs.Str.Parse.{ParsesUnsigned, AllDigits, digits_value}
use Rattle.std.proofs.lemmas.Fmt.{decimal_nonempty, digits_decimal, first_decimal, decimal_digit, decimal-digits_value}
use Rattle.std.proofs.lemmas.Bool.{ne_eqb}
use Rattle.std.proofs.lemmas.Str.Parse.{IsNumeralModel, numerals_by_value, tells_digits, digit_at, parse_plain}
use Rattle.posix_acl.specs.declared.entry.Tag.{Tag}
use Rattle.posix_acl.specs.declared.entry.Tag.TheVariants.{UserObj, User, GroupObj, Group, Mask, Other}
use Rattle.posix_acl.specs.Entries.{is_named}
use Rattle.posix_acl.specs.Numbers.{StartsPlainly}
use Rattle.posix_acl.specs.Text.{IsNameOf}

own : IsNumeralModel (AllDigits 10) (digits_value 10)
own = numerals_by_value (AllDigits 10) tells_digits

pub decimal_starts : (id : ℕ) → id < 2 ^ 32 → StartsPlainly (decimal id)
decimal_starts id fits =
    let some : 0 < length (decimal id) = decimal_nonempty id (omega arith) in
    let digit = digit_at (decimal id) 0 (digits_decimal own id (omega arith)) some in
    record { some = some; low = digit.0; high = digit.1; alone = alone id fits }
  where
    alone : (n : ℕ) → n < 2 ^ 32 → get_or (decimal n) 0 0 ≡ 48 → length (decimal n) ≡ 1
    alone zero fits first = ap length (decimal_digit 0 (omega arith))
    alone (suc n) fits first = let above = first_decimal (suc n) (omega arith) (omega arith) in absurd (omega arith)

pub parsed_is_read : {E : Type 0} (bs : List ℕ) (r : Result ℕ E) → ParsesUnsigned 32 10 bs r → StartsPlainly bs → IfSome (result_ok r) (λ id. (id < 2 ^ 32) × (bs ≡ decimal id))
parsed_is_read bs (Err e) parses starts = tt
parsed_is_read {E} bs (Ok id) parses starts =
    let low = starts.low in
    let high = starts.high in
    let read : Result ℕ E = Ok id in
    let plain : (AllDigits 10 bs × (0 < length bs) × (digits_value 10 bs < 2 ^ 32)) × (id ≡ digits_value 10 bs) =
    parse_plain own 32 bs read parses (λ plus. absurd (omega arith)) in
    let bound : digits_value 10 bs < 2 ^ 32 = plain.0.2 in
    let value : id ≡ digits_value 10 bs = plain.1 in
    (omega arith, sym (ap decimal value ∙ decimal-digits_value own bs plain.0.0 plain.0.1 starts.alone (omega arith)))

not_empty : (n : ℕ) → 0 < n → true ≡ not (eqb n 0)
not_empty n some = let e : eqb n 0 ≡ false = ne_eqb n 0 (λ none. absurd (omega arith)) in rw e refl

written_id : (id : ℕ) (name : List ℕ) → id < 2 ^ 32 → name ≡ decimal id → true ≡ not (eqb (length name) 0)
written_id id name fits same =
    not_empty (length name) (let some = decimal_nonempty id (omega arith) in omega (arith, ap length same))

pub named_alike : (tag : Tag) (id : ℕ) (name : List ℕ) → IsNameOf tag id name → is_named tag ≡ not (eqb (length name) 0)
named_alike UserObj id name is = let e : length name ≡ 0 = ap length is.text in rw e refl
named_alike GroupObj id name is = let e : length name ≡ 0 = ap length is.text in rw e refl
named_alike Mask id name is = let e : length name ≡ 0 = ap length is.text in rw e refl
named_alike Other id name is = let e : length name ≡ 0 = ap length is.text in rw e refl
named_alike User id name is = written_id id name is.fits is.text
named_alike Group id name is = written_id id name is.fits is.text
