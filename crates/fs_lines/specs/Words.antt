-- The forms of words in commands. A word that isn't of its form is BadNumber.
--     number_of, id_of, kept_id_of        decimal numbers of so many bits; an id, or none where `-` keeps the old one
--     offset_of        numbers that may have a `-`
--     groups_of, caps_of        supplementary groups, capabilities
--     perms_in, mode_of        permissions, modes
--     flags_of        how a file is opened
--     whence_of, acl_type_of        from where an offset counts, and which ACL is meant
use Rattle.std.specs.Prelude.{ℕ, ◌+◌, ◌-◌, ◌*◌, ◌^◌, ◌==◌, nat_le, nat_lt, ℤ, pos, neg_ℤ, Bool, true, false, IsTrue, ◌&&◌, ◌||◌, List, [], ◌∷◌, length, take, drop, map, codes, ok_or, option_map, Option, None, Some, Result, Ok, Err, if◌then◌else◌, refl}
use Rattle.std.specs.List.{find, list_any, range_with_len, slice_split}
use Rattle.std.specs.Fmt.{decimal}
use Rattle.std.specs.Str.{byte, bytes_eq}
use Rattle.std.specs.Str.Parse.{digits_value, starts_with_minus}
use Rattle.posix_acl.specs.declared.entry.Perms.{Perms}
use Rattle.posix_acl.specs.Entries.{perms_of}
use Rattle.posix_acl.specs.Text.{is_comma, perms_text}
use Rattle.bitflags.specs.Sets.{find_name}
use Rattle.std.specs.Int.RustNames.{bit_or}
use Rattle.fs_cred.specs.declared.caps.Caps.{Caps}
use Rattle.fs_cred.specs.Capabilities.{named_caps, no_caps}
use Rattle.fs_model.specs.declared.call.AclType.{AclType}
use Rattle.fs_model.specs.declared.call.AclType.TheVariants.{Access, Default}
use Rattle.fs_model.specs.declared.call.Flags.{Flags}
use Rattle.fs_model.specs.declared.call.Whence.{Whence}
use Rattle.fs_model.specs.declared.call.Whence.TheVariants.{Set, Cur, End}
use Rattle.fs_lines.specs.declared.line.LineFault.{LineFault}
use Rattle.fs_lines.specs.declared.line.LineFault.TheVariants.{BadNumber}
use Rattle.fs_lines.specs.Lines.{◌>>=◌, each}

abbrev pub is_decimal : List ℕ → Bool
is_decimal word = bytes_eq word (decimal (digits_value 10 word))

-- A number is written in decimal, with no zero in front of other digits, and has so many bits.
unfoldable pub number_of : ℕ → List ℕ → Result ℕ LineFault
number_of bits word =
    if is_decimal word && nat_lt (digits_value 10 word) (2 ^ bits) then Ok (digits_value 10 word) else Err BadNumber

-- ids of users and groups have 32 bits
abbrev pub id_of : List ℕ → Result ℕ LineFault
id_of word = number_of 32 word

abbrev pub some_id_of : List ℕ → Result (Option ℕ) LineFault
some_id_of word = do
  id ← id_of word
  Ok (Some id)

-- `-` is no id
unfoldable pub kept_id_of : List ℕ → Result (Option ℕ) LineFault
kept_id_of word = if bytes_eq word (codes "-") then Ok None else some_id_of word

-- ---- offsets

-- down to -2^63
abbrev pub negated : ℕ → Result ℤ LineFault
negated n = if nat_le n (2 ^ 63) then Ok (neg_ℤ (pos n)) else Err BadNumber

-- up to 2^63 - 1
abbrev pub positive : ℕ → Result ℤ LineFault
positive n = if nat_lt n (2 ^ 63) then Ok (pos n) else Err BadNumber

abbrev pub negative_of : List ℕ → Result ℤ LineFault
negative_of digits = do
  n ← number_of 64 digits
  negated n

abbrev pub positive_of : List ℕ → Result ℤ LineFault
positive_of digits = do
  n ← number_of 64 digits
  positive n

-- A `-` may stand before the number.
unfoldable pub offset_of : List ℕ → Result ℤ LineFault
offset_of word = if starts_with_minus word then negative_of (drop 1 word) else positive_of word

-- ---- groups, capabilities, permissions, modes

-- One to sixteen ids with commas between them.
unfoldable pub groups_of : List ℕ → Result (List ℕ) LineFault
groups_of word = if nat_le (length (slice_split is_comma word)) 16 then each id_of (slice_split is_comma word) else Err BadNumber

-- Capabilities stand behind `cap=`: `none`, or their names by rising bits with commas between them.
abbrev pub begins_with_cap : List ℕ → Bool
begins_with_cap word = bytes_eq (take 4 word) (codes "cap=")

abbrev pub of_bits : ℕ → Caps
of_bits bits = record { 0 = bits }

abbrev pub cap_named : List ℕ → Result Caps LineFault
cap_named name = ok_or (option_map of_bits (find_name named_caps name)) BadNumber

-- some capabilities and those that are named, each above all before it
abbrev pub caps_with : Caps → List (List ℕ) → Result Caps LineFault
caps_with caps [] = Ok caps
caps_with caps (name ∷ names) = do
  cap ← cap_named name
  if nat_lt caps.0 cap.0 then caps_with (of_bits (bit_or caps.0 cap.0)) names else Err BadNumber

unfoldable pub caps_of : List ℕ → Result Caps LineFault
caps_of word =
    if bytes_eq word (codes "cap=none") then Ok no_caps
    else (if begins_with_cap word then caps_with no_caps (slice_split is_comma (drop 4 word)) else Err BadNumber)

abbrev pub some_caps_of : List ℕ → Result (Option Caps) LineFault
some_caps_of word = do
  caps ← caps_of word
  Ok (Some caps)

-- the permissions of the digits 0 to 7
abbrev pub all_perms : List Perms
all_perms = map perms_of (range_with_len 0 8)

-- Permissions are written by their letters.
unfoldable pub perms_in : List ℕ → Result Perms LineFault
perms_in word = ok_or (find (λ p. bytes_eq word (perms_text p)) all_perms) BadNumber

abbrev pub is_octal_digit : ℕ → Bool
is_octal_digit b = nat_le 48 b && nat_le b 55

abbrev pub octal_digits : ℕ → ℕ → ℕ → ℕ → Result ℕ LineFault
octal_digits a b c d =
    if is_octal_digit a && is_octal_digit b && is_octal_digit c && is_octal_digit d
    then Ok (512 * (a - 48) + 64 * (b - 48) + 8 * (c - 48) + (d - 48)) else Err BadNumber

-- A mode is one to four octal digits; those that are left out are zeros in front.
unfoldable pub mode_of : List ℕ → Result ℕ LineFault
mode_of (d ∷ []) = octal_digits 48 48 48 d
mode_of (c ∷ d ∷ []) = octal_digits 48 48 c d
mode_of (b ∷ c ∷ d ∷ []) = octal_digits 48 b c d
mode_of (a ∷ b ∷ c ∷ d ∷ []) = octal_digits a b c d
mode_of _ = Err BadNumber

-- ---- flags

abbrev pub has : ℕ → List ℕ → Bool
has letter word = list_any (λ b. b == letter) word

abbrev pub without_letter : ℕ → List ℕ → List ℕ
without_letter letter [] = []
without_letter letter (b ∷ bs) = if b == letter then bs else b ∷ bs

-- what is left of a word, where each letter in turn is taken off its front if it stands there
abbrev pub left_over : List ℕ → List ℕ → List ℕ
left_over [] word = word
left_over (letter ∷ letters) word = left_over letters (without_letter letter word)

-- read, write, create, excl, trunc, append, nofollow, directory
abbrev pub flag_letters : List ℕ
flag_letters = codes "rwcxtand"

-- opened for reading or for writing, with the other flags of the word
abbrev pub flags_with : (read write : Bool) → IsTrue (read || write) → List ℕ → Flags
flags_with read write opens word = record {
  read = read;
  write = write;
  create = has (byte "c") word;
  excl = has (byte "x") word;
  trunc = has (byte "t") word;
  append = has (byte "a") word;
  nofollow = has (byte "n") word;
  directory = has (byte "d") word;
  opens = opens;
}

abbrev pub opened : Bool → Bool → List ℕ → Result Flags LineFault
opened true write word = Ok (flags_with true write refl word)
opened false true word = Ok (flags_with false true refl word)
opened false false word = Err BadNumber

-- The letters of the flags that are set, in this order.
unfoldable pub flags_of : List ℕ → Result Flags LineFault
flags_of word = if length (left_over flag_letters word) == 0 then opened (has (byte "r") word) (has (byte "w") word) word else Err BadNumber

-- ---- words that have a name

unfoldable pub whence_of : List ℕ → Result Whence LineFault
whence_of word =
    if bytes_eq word (codes "set") then Ok Set
    else (if bytes_eq word (codes "cur") then Ok Cur
    else (if bytes_eq word (codes "end") then Ok End else Err BadNumber))

unfoldable pub acl_type_of : List ℕ → Result AclType LineFault
acl_type_of word =
    if bytes_eq word (codes "access") then Ok Access
    else (if bytes_eq word (codes "default") then Ok Default else Err BadNumber)
