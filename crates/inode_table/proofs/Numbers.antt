-- The entries of an ACL and their numbers, as a sector has them.
use Rattle.std.proofs.Common.{◌≡◌, ℕ, ◌+◌, ◌<◌, List, [], ◌∷◌, ◌++◌, length, get_or, set, take, map, Some, None, Result, Ok, sym, ap, subst, ◌∙◌, arith}
use Rattle.std.specs.List.Sorted.{IsPermutation}
use Rattle.std.proofs.lemmas.List.{take_more, take_more_set, take_all, map-append, get_or-map, length-map}
use Rattle.std.proofs.lemmas.List.Sorted.{IsPermutation-refl}
use Rattle.posix_acl.specs.declared.entry.Entry.{Entry}
use Rattle.posix_acl.specs.declared.entry.EntryNumbers.{EntryNumbers}
use Rattle.posix_acl.specs.declared.fault.AclFault.{AclFault}
use Rattle.posix_acl.specs.Entries.{numbers_of, plain_entries}
use Rattle.posix_acl.specs.AccessList.{AccessList, IsAcl, entries_of, list_numbers}
use Rattle.posix_acl.specs.Faults.{first_fault, IsListOf}
use Rattle.posix_acl.proofs.Laws.{entries_same, own_plain}
use Rattle.posix_acl.proofs.NoFault.{no_fault_in}
use Rattle.fs_layout.specs.AclSector.{FitsAclSector, acl_sector_bytes, acl_content}
use Rattle.fs_layout.proofs.OneAcl.{sector_fits}

-- ---- written
-- one entry more
pub numbers_more : (es : List Entry) (to : List EntryNumbers) (i : ℕ) (x : EntryNumbers) (d : Entry) → i < length to → i < length es
    → take i to ≡ map numbers_of (take i es) → x ≡ numbers_of (get_or es i d) → take (i + 1) (set to i x) ≡ map numbers_of (take (i + 1) es)
numbers_more es to i x d room lt so_far is =
    take_more_set to i x room ∙ ap (λ (r : List EntryNumbers). r ++ x ∷ []) so_far ∙ ap (λ (k : EntryNumbers). map numbers_of (take i es) ++ k ∷ []) is
    ∙ sym (ap (map numbers_of) (take_more es i d lt) ∙ map-append numbers_of (take i es) (get_or es i d ∷ []))

-- and then all of them
pub all_numbers_written : (a : AccessList) (es : List Entry) (to ns : List EntryNumbers) (i : ℕ) (content : List ℕ) → es ≡ entries_of a → i ≡ length es
    → take i to ≡ map numbers_of (take i es) → ns ≡ take (length es) to → content ≡ acl_sector_bytes ns → content ≡ acl_content a
unfolding acl_content
all_numbers_written a es to ns i content is end so_far cut written =
    let all : ns ≡ list_numbers a =
    cut ∙ ap (λ (k : ℕ). take k to) (sym end) ∙ so_far ∙ ap (map numbers_of) (take_all i es (omega (arith, end)) ∙ is) in
    written ∙ ap acl_sector_bytes all

-- ---- read
-- the sector of an ACL is read as its numbers
pub numbers_read : {E : Type 0} (a : AccessList) (content : List ℕ) (r : Result (List EntryNumbers) E) → IsAcl a → content ≡ acl_content a
    → ((v : List EntryNumbers) → FitsAclSector v → content ≡ acl_sector_bytes v → r ≡ Ok v) → r ≡ Ok (list_numbers a)
unfolding acl_content
numbers_read a content r is same only = only (list_numbers a) (sector_fits a is) same

-- each of them is that of an entry
pub entry_known : (a : AccessList) (ns : List EntryNumbers) (i : ℕ) (d : EntryNumbers) (e : Entry) → ns ≡ list_numbers a → i < length ns
    → numbers_of (get_or (entries_of a) i e) ≡ get_or ns i d
entry_known a ns i d e is lt =
    let room : i < length (entries_of a) = omega (arith, lt, ap length is, length-map (entries_of a) numbers_of) in
    sym (ap (λ (l : List EntryNumbers). get_or l i d) is ∙ get_or-map numbers_of (entries_of a) i e d room)

-- all of them are read
pub entries_read : (a : AccessList) (es : List Entry) (ns : List EntryNumbers) (i : ℕ) → ns ≡ list_numbers a → i ≡ length ns → map numbers_of es ≡ take i ns
    → es ≡ entries_of a
entries_read a es ns i is end so_far = entries_same es (entries_of a) (so_far ∙ take_all i ns (omega (arith, end)) ∙ is)

-- the entries of a list make it
pub entries_make : (a : AccessList) (es : List Entry) → IsAcl a → es ≡ entries_of a → IsListOf es a
entries_make a es is same = record {
  valid = is;
  same = subst (λ (l : List Entry). IsPermutation (plain_entries l) (entries_of a)) (sym same)
      (subst (λ (l : List Entry). IsPermutation l (entries_of a)) (sym (own_plain a is)) (IsPermutation-refl (entries_of a)));
}

-- and have no fault
pub entries_faultless : (a : AccessList) (es : List Entry) (fault : AclFault) → IsAcl a → es ≡ entries_of a → first_fault (plain_entries es) ≡ Some fault → ⊥
entries_faultless a es fault is same found =
    let none : first_fault (plain_entries es) ≡ None = ap (λ (l : List Entry). first_fault (plain_entries l)) same ∙ ap first_fault (own_plain a is) ∙ no_fault_in a is in
    cc
