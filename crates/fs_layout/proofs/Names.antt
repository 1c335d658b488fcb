-- The test of a name says whether it is one.
use Rattle.std.proofs.Common.{◌≡◌, ℕ, ◌≤◌, List, length, refl, Bool, not, ◌&&◌}
use Rattle.std.specs.Prelude.{◌≢◌, ◌↔◌, nat_eq, nat_le, All, codes, IsTrue}
use Rattle.std.specs.Bool.{Decides}
use Rattle.std.specs.List.{list_all}
use Rattle.std.specs.Str.{bytes_eq}
use Rattle.std.proofs.lemmas.Bool.Decides.{Decides-and, Decides-not, Decides-eqb, Decides-like, Decides-by_and, same_from_decides}
use Rattle.std.proofs.lemmas.Bool.{leb-true, le-leb}
use Rattle.std.proofs.lemmas.Slice.Eq.{bytes_eq-Decides}
use Rattle.fs_layout.specs.declared.slot.TheConstants.{MAX_NAME}
use Rattle.fs_layout.specs.Directories.{IsName, name_test}

le_decides : (a b : ℕ) → Decides (nat_le a b) (a ≤ b)
le_decides a b = (leb-true a b, le-leb a b)

abbrev IsNameByte : ℕ → Type 0
IsNameByte b = (b ≢ 0) × (b ≢ 47)

abbrev is_name_byte : ℕ → Bool
is_name_byte b = not (nat_eq b 0) && not (nat_eq b 47)

byte_decides : (b : ℕ) → Decides (is_name_byte b) (IsNameByte b)
byte_decides b =
    Decides-and (not (nat_eq b 0)) (not (nat_eq b 47)) (Decides-not (nat_eq b 0) (Decides-eqb b 0)) (Decides-not (nat_eq b 47) (Decides-eqb b 47))

bytes_decide : (name : List ℕ) → Decides (list_all is_name_byte name) (All IsNameByte name)
bytes_decide name = Decides-by_and is_name_byte IsNameByte (list_all is_name_byte) byte_decides refl (λ _ _. refl) name

other_decides : (name other : List ℕ) → Decides (not (bytes_eq name other)) (name ≢ other)
other_decides name other = Decides-not (bytes_eq name other) (bytes_eq-Decides name other)

abbrev Parts : List ℕ → Type 0
Parts name = (((1 ≤ length name) × (length name ≤ MAX_NAME)) × All IsNameByte name) × ((name ≢ codes ".") × (name ≢ codes ".."))

is_from_parts : (name : List ℕ) → Parts name → IsName name
is_from_parts name p = record { not_empty = p.0.0.0; short = p.0.0.1; bytes = p.0.1; not_dot = p.1.0; not_dot_dot = p.1.1 }

parts_of : (name : List ℕ) → IsName name → Parts name
parts_of name n = (((n.not_empty, n.short), n.bytes), (n.not_dot, n.not_dot_dot))

pub name_test-decides : (name : List ℕ) → Decides (name_test name) (IsName name)
unfolding name_test
name_test-decides name =
    let short =
    Decides-and (nat_le 1 (length name)) (nat_le (length name) MAX_NAME) (le_decides 1 (length name)) (le_decides (length name) MAX_NAME) in
    let bytes = Decides-and (nat_le 1 (length name) && nat_le (length name) MAX_NAME) (list_all is_name_byte name) short (bytes_decide name) in
    let dots =
    Decides-and (not (bytes_eq name (codes "."))) (not (bytes_eq name (codes ".."))) (other_decides name (codes ".")) (other_decides name (codes "..")) in
    Decides-like (name_test name) (is_from_parts name) (parts_of name)
    (Decides-and ((nat_le 1 (length name) && nat_le (length name) MAX_NAME) && list_all is_name_byte name)
    (not (bytes_eq name (codes ".")) && not (bytes_eq name (codes ".."))) bytes dots)

-- what `is_name` answers is what the test says
pub answers_name_test : (answer : Bool) (name : List ℕ) → (IsTrue answer ↔ IsName name) → answer ≡ name_test name
answers_name_test answer name is = same_from_decides answer (name_test name) is (name_test-decides name)
