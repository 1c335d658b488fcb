-- A name that is no text stands in no row.
use Rattle.std.proofs.Common.{◌≡◌, ℕ, suc, zero, Bool, true, false, List, [], ◌∷◌, nat_lt, None, refl, sym, subst, arith}
use borrow.Author.Tests.{ltb-true}
use Rattle.std.specs.List.{list_all}
use Rattle.std.specs.Str.{IsUtf8, IsAscii, bytes_eq}
use Rattle.std.proofs.lemmas.Bool.{false_from_ne_true, and_parts}
use Rattle.std.proofs.lemmas.Slice.Eq.{bytes_eq-Decides}
use Rattle.std.proofs.lemmas.Str.{IsUtf8-from_ascii}
use Rattle.fs_lines.specs.Commands.{CommandRow, name_of, row_named}

abbrev pub is_plain_name : List ℕ → Bool
is_plain_name name = list_all (λ b. nat_lt b 128) name

-- all names are of ASCII
abbrev pub are_plain : List CommandRow → Bool
are_plain rows = list_all (λ r. is_plain_name (name_of r)) rows

plain_at : (name : List ℕ) → is_plain_name name ≡ true → IsAscii name
plain_at [] plain i = omega arith
plain_at (b ∷ name) plain zero = ltb-true b 128 (and_parts (nat_lt b 128) (is_plain_name name) plain).0
plain_at (b ∷ name) plain (suc i) = plain_at name (and_parts (nat_lt b 128) (is_plain_name name) plain).1 i

pub is_text : (name : List ℕ) → is_plain_name name ≡ true → IsUtf8 name
is_text name plain = IsUtf8-from_ascii name (plain_at name plain)

other_name : (name other : List ℕ) → is_plain_name other ≡ true → (IsUtf8 name → ⊥) → bytes_eq name other ≡ false
other_name name other plain no_text =
    false_from_ne_true (bytes_eq name other)
    (λ same. no_text (subst IsUtf8 (sym ((bytes_eq-Decides name other).0 same)) (is_text other plain)))

pub no_row : (rows : List CommandRow) (name : List ℕ) → are_plain rows ≡ true → (IsUtf8 name → ⊥) → row_named rows name ≡ None
no_row [] name plain no_text = refl
no_row (r ∷ rows) name plain no_text =
    let parts = and_parts (is_plain_name (name_of r)) (are_plain rows) plain in
    rw (other_name name (name_of r) parts.0 no_text) (no_row rows name parts.1 no_text)
