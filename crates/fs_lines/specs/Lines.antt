-- Script lines: how an input is cut into lines, and a line into words. The grammar is our own.
--     lines_of        the lines of an input
--     is_silent, is_printable        a line without words or with a comment; a byte that a line may have
--     words_of        what stands between the spaces of a line
--     ◌>>=◌, each        what follows where nothing is wrong; and one after another
--     word_bytes        the bytes that a word says, or BadEscape
use Rattle.std.specs.Prelude.{ℕ, ◌+◌, ◌-◌, ◌*◌, ◌==◌, nat_le, nat_lt, Bool, true, not, ◌&&◌, ◌||◌, List, [], ◌∷◌, length, Option, None, Some, Result, Ok, Err, if◌then◌else◌}
use Rattle.std.specs.List.{filter, find, onto_first, slice_split}
use Rattle.std.specs.Str.{bytes_eq}
use Rattle.fs_lines.specs.declared.line.LineFault.{LineFault}
use Rattle.fs_lines.specs.declared.line.LineFault.TheVariants.{BadEscape}

-- A line ends at a newline, or where the input ends; its newline isn't part of it.
abbrev pub lines_of : List ℕ → List (List ℕ)
lines_of [] = []
lines_of (b ∷ bs) = if b == 10 then [] ∷ lines_of bs else onto_first b (lines_of bs)

abbrev pub is_space : ℕ → Bool
is_space b = b == 32

abbrev pub is_no_space : ℕ → Bool
is_no_space b = not (is_space b)

-- a line has no byte but spaces, or a `#` is the first
abbrev pub is_silent_start : Option ℕ → Bool
is_silent_start None = true
is_silent_start (Some b) = b == 35

abbrev pub is_silent : List ℕ → Bool
is_silent line = is_silent_start (find is_no_space line)

-- a space or a graphic character of ASCII
abbrev pub is_printable : ℕ → Bool
is_printable b = nat_le 32 b && nat_le b 126

abbrev pub is_filled : List ℕ → Bool
is_filled word = not (length word == 0)

-- Words stand between spaces.
abbrev pub words_of : List ℕ → List (List ℕ)
words_of line = filter is_filled (slice_split is_space line)

-- ---- what a word says

-- a decimal digit, or one of a to f
abbrev pub is_hex_digit : ℕ → Bool
is_hex_digit b = (nat_le 48 b && nat_le b 57) || (nat_le 97 b && nat_le b 102)

abbrev pub hex_value : ℕ → ℕ
hex_value b = if nat_lt b 97 then b - 48 else b - 87

-- neither `\` nor `"`
abbrev pub is_plain : ℕ → Bool
is_plain b = not (b == 92) && not (b == 34)

-- what follows, where nothing is wrong yet
infixl 10 ◌>>=◌
abbrev pub ◌>>=◌ : {A B : Type 0} → Result A LineFault → (A → Result B LineFault) → Result B LineFault
(Ok x) >>= f = f x
(Err fault) >>= f = Err fault

abbrev pub with_byte : ℕ → Result (List ℕ) LineFault → Result (List ℕ) LineFault
with_byte b rest = do
  bytes ← rest
  Ok (b ∷ bytes)

abbrev pub with_plain : ℕ → Result (List ℕ) LineFault → Result (List ℕ) LineFault
with_plain b rest = if is_plain b then with_byte b rest else Err BadEscape

-- the byte that two digits say
abbrev pub with_escape : ℕ → ℕ → Result (List ℕ) LineFault → Result (List ℕ) LineFault
with_escape high low rest =
    if is_hex_digit high && is_hex_digit low then with_byte (16 * hex_value high + hex_value low) rest else Err BadEscape

-- `\` and two digits say one byte, and each other byte but `"` says itself.
abbrev pub unescaped : List ℕ → Result (List ℕ) LineFault
unescaped [] = Ok []
unescaped (b ∷ []) = with_plain b (Ok [])
unescaped (b ∷ c ∷ []) = with_plain b (with_plain c (Ok []))
unescaped (b ∷ c ∷ d ∷ bs) = if b == 92 then with_escape c d (unescaped bs) else with_plain b (unescaped (c ∷ d ∷ bs))

-- `""` says no byte.
abbrev pub empty_word : List ℕ
empty_word = 34 ∷ 34 ∷ []

unfoldable pub word_bytes : List ℕ → Result (List ℕ) LineFault
word_bytes word = if bytes_eq word empty_word then Ok [] else unescaped word

-- what reading each comes to, or the first fault
abbrev pub each : {A B : Type 0} → (A → Result B LineFault) → List A → Result (List B) LineFault
each read [] = Ok []
each read (x ∷ xs) = do
  y ← read x
  ys ← each read xs
  Ok (y ∷ ys)
