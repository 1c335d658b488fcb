-- Texts in a request, which end in NUL.
--     IsFileName        what a name in a directory may be
--     text_of, name_from        the text that begins at an offset; the same where it is a name
use Rattle.std.specs.Prelude.{◌≡◌, ℕ, ◌==◌, Bool, false, List, take, drop, position, Option, Some, None, option_map, option_and_then, if◌then◌else◌}
use Rattle.std.specs.List.{list_any}

abbrev pub is_nul : ℕ → Bool
is_nul byte = byte == 0

abbrev pub is_slash : ℕ → Bool
is_slash byte = byte == 47

-- no byte of it is NUL or /
pub record IsFileName (name : List ℕ) : Type 0 where
  pub no_nul : list_any is_nul name ≡ false
  pub no_slash : list_any is_slash name ≡ false

-- the bytes before the first NUL from an offset on, where there is one
unfoldable pub text_of : List ℕ → ℕ → Option (List ℕ)
text_of s at = option_map (λ end. take end (drop at s)) (position is_nul (drop at s))

-- a text with / is no name
abbrev pub as_name : List ℕ → Option (List ℕ)
as_name text = if list_any is_slash text then None else Some text

unfoldable pub name_from : List ℕ → ℕ → Option (List ℕ)
name_from s at = option_and_then as_name (text_of s at)
