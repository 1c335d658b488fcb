-- The entries that a value says, one by one.
use Rattle.std.proofs.Common.{◌≡◌, ℕ, zero, suc, ◌+◌, ◌*◌, ◌<◌, List, [], ◌∷◌, ◌++◌, length, get_or, map, Option, Some, None, refl, sym, ap, ◌∙◌, add-one, arith, inl, inr}
use Rattle.std.proofs.lemmas.Bool.{cases_lt}
use Rattle.std.proofs.lemmas.List.{get_or_append_left, get_or_at, get_or-map, length_push, map-append}
use Rattle.posix_acl.specs.declared.entry.Entry.{Entry}
use Rattle.posix_acl.specs.declared.entry.EntryNumbers.{EntryNumbers}
use Rattle.posix_acl.specs.declared.entry.Tag.TheVariants.{Other}
use Rattle.posix_acl.specs.Entries.{entry, numbers_of, perms_of}
use Rattle.fuse_protocol.specs.AclValues.{IsAclValue, first_numbers, numbers_at}

pub length-first_numbers : (s : List ℕ) (n : ℕ) → length (first_numbers s n) ≡ n
unfolding first_numbers
length-first_numbers s zero = refl
length-first_numbers s (suc n) = length_push (first_numbers s n) (numbers_at s (4 + 8 * n)) ∙ omega (arith, length-first_numbers s n)

pub one_entry_more : (s : List ℕ) (es fs : List Entry) (e : Entry) (i : ℕ) → map numbers_of es ≡ first_numbers s i
    → numbers_of e ≡ numbers_at s (4 + 8 * i) → fs ≡ es ++ e ∷ [] → map numbers_of fs ≡ first_numbers s (i + 1)
unfolding first_numbers
one_entry_more s es fs e i so_far now is =
    rw add-one (ap (map numbers_of) is ∙ map-append numbers_of es (e ∷ []) ∙ ap (λ (r : List EntryNumbers). r ++ numbers_of e ∷ []) so_far
    ∙ ap (λ (x : EntryNumbers). first_numbers s i ++ x ∷ []) now)

pub none_first : (s : List ℕ) → map numbers_of [] ≡ first_numbers s 0
unfolding first_numbers
none_first s = refl

number_in : (s : List ℕ) (n i : ℕ) (d : EntryNumbers) → i < n → get_or (first_numbers s n) i d ≡ numbers_at s (4 + 8 * i)
unfolding first_numbers
number_in s zero i d below = absurd (omega arith)
number_in s (suc n) i d below =
    let len : length (first_numbers s n) ≡ n = length-first_numbers s n in
    elim (cases_lt i n) [
      | inl lt ↦ get_or_append_left (first_numbers s n) (numbers_at s (4 + 8 * n) ∷ []) d i (omega (arith, len)) ∙ number_in s n i d lt
      | inr le ↦
          let same : n ≡ i = omega arith in
          get_or_at (first_numbers s n) (numbers_at s (4 + 8 * n)) [] d i (len ∙ same) ∙ ap (λ (k : ℕ). numbers_at s (4 + 8 * k)) same
    ]

-- a value that says entries has each of them
pub has_entry : (s : List ℕ) (es : List Entry) (i count : ℕ) → IsAclValue s es → length s ≡ 4 + 8 * count → i < count
    → (e : Entry) × (numbers_of e ≡ numbers_at s (4 + 8 * i))
has_entry s es i count v size below =
    let none : Entry = entry Other 0 (perms_of 0) in
    let len : length es ≡ count = omega (arith, v.size) in
    let within : i < length es = omega arith in (
      get_or es i none,
      sym (get_or-map numbers_of es i none (numbers_of none) within) ∙ ap (λ (r : List EntryNumbers). get_or r i (numbers_of none)) v.entries
          ∙ number_in s (length es) i (numbers_of none) within,
    )

pub none_is_some : (found : Option Entry) (e : Entry) → found ≡ None → found ≡ Some e → ⊥
none_is_some found e none some = absurd (let both : None ≡ Some e = sym none ∙ some in cc)
