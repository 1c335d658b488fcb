-- The components of a pathname: one byte or more, none of them a slash or zero.
use Rattle.std.specs.Prelude.{◌≡◌, ◌≢◌, ℕ, zero, suc, ◌<◌, ◌≤◌, ◌==◌, Bool, true, false, not, ◌||◌, cond, List, [], ◌∷◌, ◌++◌, length, All}
use Rattle.std.proofs.Common.{refl, ap, arith}
use Rattle.std.proofs.lemmas.Bool.Decides.{nat_tests}
use Rattle.std.proofs.lemmas.List.Elements.{All-from_recursion}
use Rattle.std.specs.List.{AllByRecursion, filter, list_any, slice_split, onto_first}
use Rattle.fs_layout.specs.Bytes.{IsBytes}
use Rattle.fs_layout.specs.Directories.{IsName}
use Rattle.fs_layout.specs.declared.slot.TheConstants.{MAX_NAME}
use Rattle.fs_model.specs.Trees.{IsTarget}
use Rattle.fs_model.specs.Parts.{slash, is_empty, parts_of}
use Rattle.fs_model.specs.Trails.{is_dot, is_dot_dot}

-- ---- bytes

abbrev IsPathByte : ℕ → Type 0
IsPathByte b = (b < 256) × (b ≢ 0)

abbrev IsNameByte : ℕ → Type 0
IsNameByte b = (b < 256) × (b ≢ 0) × (b ≢ 47)

abbrev pub ArePathBytes : List ℕ → Type 0
ArePathBytes path = AllByRecursion IsPathByte path

abbrev AreNameBytes : List ℕ → Type 0
AreNameBytes name = AllByRecursion IsNameByte name

bytes_back : (name : List ℕ) → AreNameBytes name → IsBytes name
bytes_back [] are i = omega arith
bytes_back (b ∷ name) are zero = are.0.0
bytes_back (b ∷ name) are (suc i) = bytes_back name are.1 i

chars_back : (name : List ℕ) → AreNameBytes name → AllByRecursion (λ b. (b ≢ 0) × (b ≢ 47)) name
chars_back [] are = tt
chars_back (b ∷ name) are = ((are.0.1, are.0.2), chars_back name are.1)

-- of a path that isn't refused
pub path_bytes : (path : List ℕ) → IsBytes path → list_any (λ b. b == 0) path ≡ false → ArePathBytes path
path_bytes [] are none = tt
path_bytes (b ∷ path) are none = go (b == 0) refl none (λ h. path_bytes path (λ i. are (suc i)) h)
  where
    go : (t : Bool) → (b == 0) ≡ t → (t || list_any (λ b. b == 0) path) ≡ false → (list_any (λ b. b == 0) path ≡ false → ArePathBytes path)
        → ArePathBytes (b ∷ path)
    go true e none rest = absurd cc
    go false e none rest = ((are zero, (λ zero. let t : (b == 0) ≡ true = grind (arith, nat_tests) in cc)), rest none)

-- of a link's target
no_zeros : (target : List ℕ) → All (λ b. b ≢ 0) target → AllByRecursion (λ b. b ≢ 0) target
no_zeros [] all = tt
no_zeros (b ∷ target) all = (all zero b (omega arith), no_zeros target (λ k d lt. all (suc k) d (omega arith)))

both_bytes : (path : List ℕ) → IsBytes path → AllByRecursion (λ b. b ≢ 0) path → ArePathBytes path
both_bytes [] are some = tt
both_bytes (b ∷ path) are some = ((are zero, some.0), both_bytes path (λ i. are (suc i)) some.1)

pub target_bytes : (target : List ℕ) → IsTarget target → ArePathBytes target
target_bytes target is = both_bytes target is.bytes (no_zeros target is.no_zero)

-- ---- components

pub record IsComponent (name : List ℕ) : Type 0 where
  pub not_empty : 0 < length name
  pub bytes : IsBytes name
  pub chars : All (λ b. (b ≢ 0) × (b ≢ 47)) name

abbrev pub AreComponents : List (List ℕ) → Type 0
AreComponents names = AllByRecursion IsComponent names

component : (b : ℕ) (piece : List ℕ) → AreNameBytes (b ∷ piece) → IsComponent (b ∷ piece)
component b piece are = record {
  not_empty = omega arith;
  bytes = bytes_back (b ∷ piece) are;
  chars = All-from_recursion (λ b. (b ≢ 0) × (b ≢ 47)) (b ∷ piece) (chars_back (b ∷ piece) are);
}

onto_first_are : (b : ℕ) (pieces : List (List ℕ)) → IsNameByte b → AllByRecursion AreNameBytes pieces
    → AllByRecursion AreNameBytes (onto_first b pieces)
onto_first_are b [] is are = ((is, tt), tt)
onto_first_are b (piece ∷ pieces) is are = ((is, are.0), are.1)

-- the pieces between slashes
pieces_are : (path : List ℕ) → ArePathBytes path → AllByRecursion AreNameBytes (slice_split (λ b. b == slash) path)
pieces_are [] all = (tt, tt)
pieces_are (b ∷ path) all = go (b == slash) refl (pieces_are path all.1)
  where
    rest : List (List ℕ)
    rest = slice_split (λ b. b == slash) path

    go : (t : Bool) → (b == slash) ≡ t → AllByRecursion AreNameBytes rest → AllByRecursion AreNameBytes (cond t ([] ∷ rest) (onto_first b rest))
    go true e are = (tt, are)
    go false e are = onto_first_are b rest (all.0.0, all.0.1, (λ is. let t : (b == slash) ≡ true = grind (arith, nat_tests) in cc)) are

-- the components that aren't empty
nonempty_are : (pieces : List (List ℕ)) → AllByRecursion AreNameBytes pieces → AreComponents (filter (λ piece. not (is_empty piece)) pieces)
nonempty_are [] are = tt
nonempty_are ([] ∷ pieces) are = nonempty_are pieces are.1
nonempty_are ((b ∷ piece) ∷ pieces) are = (component b piece are.0, nonempty_are pieces are.1)

pub parts_are : (path : List ℕ) → ArePathBytes path → AreComponents (parts_of path).names
parts_are path all = nonempty_are (slice_split (λ b. b == slash) path) (pieces_are path all)

pub components_append : (xs ys : List (List ℕ)) → AreComponents xs → AreComponents ys → AreComponents (xs ++ ys)
components_append [] ys a b = b
components_append (x ∷ xs) ys a b = (a.0, components_append xs ys a.1 b)

-- a component that is short and neither `.` nor `..` is a name
pub component_is_name : (name : List ℕ) → IsComponent name → length name ≤ MAX_NAME → is_dot name ≡ false → is_dot_dot name ≡ false → IsName name
component_is_name name is short dot dots = record {
  not_empty = is.not_empty;
  short = short;
  bytes = is.chars;
  not_dot = λ e. (let t : is_dot name ≡ true = ap is_dot e in cc);
  not_dot_dot = λ e. (let t : is_dot_dot name ≡ true = ap is_dot_dot e in cc);
}
