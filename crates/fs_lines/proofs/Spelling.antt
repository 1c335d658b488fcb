-- Texts of bytes.
use Rattle.std.proofs.Common.{◌≡◌, ◌<◌, ◌/◌, ◌%◌, ℕ, suc, Bool, true, false, cond, List, [], ◌∷◌, get_or, refl, sym, ap, subst, arith}
use Rattle.std.specs.List.{list_all}
use Rattle.std.specs.Str.{IsAscii, IsUtf8}
use Rattle.std.specs.Fmt.{digit_glyph}
use Rattle.std.proofs.lemmas.Bool.{and_parts}
use Rattle.std.proofs.lemmas.Bool.Decides.{nat_tests}
use Rattle.std.proofs.lemmas.Str.{IsAscii-append, IsUtf8-from_ascii}
use Rattle.std.proofs.lemmas.Str.Ascii.{IsAscii-nil, IsAscii-cons}
use Rattle.fs_lines.specs.Texts.{stands_for_itself, byte_text, bytes_text}

-- bytes that all stand for themselves
pub text_as_it_stands : (bytes : List ℕ) → list_all stands_for_itself bytes ≡ true → bytes_text bytes ≡ bytes
text_as_it_stands [] all = refl
text_as_it_stands (b ∷ bytes) all =
    let parts = and_parts (stands_for_itself b) (list_all stands_for_itself bytes) all in
    rw parts.0 (ap (λ l. b ∷ l) (text_as_it_stands bytes parts.1))

glyph_is_ascii : (d : ℕ) → d < 16 → digit_glyph false d < 128
glyph_is_ascii d digit = grind (arith, nat_tests)

itself_is_ascii : (b : ℕ) → stands_for_itself b ≡ true → b < 128
itself_is_ascii b stands = grind (arith, nat_tests)

written_is_ascii : (b : ℕ) (stands : Bool) → stands_for_itself b ≡ stands → b < 256
    → IsAscii (cond stands (b ∷ []) (92 ∷ digit_glyph false (b / 16) ∷ digit_glyph false (b % 16) ∷ []))
written_is_ascii b true stands byte = IsAscii-cons b [] (itself_is_ascii b stands) IsAscii-nil
written_is_ascii b false stands byte =
    let high : digit_glyph false (b / 16) < 128 = glyph_is_ascii (b / 16) (omega arith) in
    let low : digit_glyph false (b % 16) < 128 = glyph_is_ascii (b % 16) (omega arith) in
    IsAscii-cons 92 (digit_glyph false (b / 16) ∷ digit_glyph false (b % 16) ∷ []) (omega arith)
    (IsAscii-cons (digit_glyph false (b / 16)) (digit_glyph false (b % 16) ∷ []) high (IsAscii-cons (digit_glyph false (b % 16)) [] low IsAscii-nil))

-- each is a byte
abbrev pub AreBytes : List ℕ → Type 0
AreBytes bytes = (i : ℕ) → get_or bytes i 0 < 256

text_is_ascii : (bytes : List ℕ) → AreBytes bytes → IsAscii (bytes_text bytes)
text_is_ascii [] each = IsAscii-nil
text_is_ascii (b ∷ bytes) each =
    IsAscii-append (byte_text b) (bytes_text bytes) (written_is_ascii b (stands_for_itself b) refl (each 0)) (text_is_ascii bytes (λ i. each (suc i)))

pub text_is_utf8 : (bytes text : List ℕ) → AreBytes bytes → text ≡ bytes_text bytes → IsUtf8 text
text_is_utf8 bytes text each same = subst IsUtf8 (sym same) (IsUtf8-from_ascii (bytes_text bytes) (text_is_ascii bytes each))
