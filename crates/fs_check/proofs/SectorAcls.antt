-- ACLs made of the numbers that a sector has.
use Rattle.std.specs.Prelude.{◌≡◌, ◌≢◌, ℕ, ◌<◌, Bool, true, false, List, length, get_or, map, Option, Some, None, IsTrue, ◌↔◌}
use Rattle.std.proofs.Common.{sym, ap, arith, ◌∙◌, subst, Vec, Global}
use Rattle.std.specs.Option.{MatchOption}
use Rattle.std.specs.List.Sorted.{IsPermutation}
use Rattle.std.proofs.lemmas.List.{get_or-map, length-map}
use Rattle.std.proofs.lemmas.List.Sorted.{IsPermutation-refl}
use Rattle.posix_acl.specs.declared.entry.Entry.{Entry}
use Rattle.posix_acl.specs.declared.entry.EntryNumbers.{EntryNumbers}
use Rattle.posix_acl.specs.declared.fault.AclFault.{AclFault}
use Rattle.posix_acl.specs.Entries.{numbers_of, plain_entries}
use Rattle.posix_acl.specs.AccessList.{AccessList, IsAcl, entries_of, list_numbers}
use Rattle.posix_acl.specs.Faults.{first_fault, IsListOf}
use Rattle.posix_acl.proofs.Laws.{entries_same, own_plain}
use Rattle.posix_acl.proofs.NoFault.{no_fault_in}
use Rattle.posix_acl.proofs.Ordering.{blank}
use Rattle.fs_check.specs.StoredAcls.{AreNoEntries, IsListed}

-- ---- the entries with some numbers

-- one number that is no entry's
pub none_there : (ns : List EntryNumbers) (i : ℕ) (d : EntryNumbers) (r : Option Entry) → i < length ns
    → ((e : Entry) → numbers_of e ≡ get_or ns i d → r ≡ Some e) → r ≡ None → AreNoEntries ns
none_there ns i d r lt only none es same =
    let room : i < length es = omega (arith, lt, ap length same, length-map es numbers_of) in
    let some : r ≡ Some (get_or es i blank) =
    only (get_or es i blank) (sym (get_or-map numbers_of es i blank d room) ∙ ap (λ (l : List EntryNumbers). get_or l i d) same) in
    let c : None ≡ Some (get_or es i blank) = sym none ∙ some in absurd cc

-- ---- what was found of entries
abbrev AreFound : List EntryNumbers → Option (Vec Entry Global) → Type 0
AreFound ns o = MatchOption o (AreNoEntries ns) (λ v. map numbers_of v.items ≡ ns)

module _ (ns : List EntryNumbers) (o : Option (Vec Entry Global)) (found : AreFound ns o) where
  pub no_entries : o ≡ None → IsListed ns None
  no_entries is a valid same = subst (AreFound ns) is found (entries_of a) same

  pub with_entries : (v : Vec Entry Global) → o ≡ Some v → map numbers_of v.items ≡ ns
  with_entries v is = subst (AreFound ns) is found

-- ---- the ACL with these entries

made_plain : (a : AccessList) (es : List Entry) → IsAcl a → es ≡ entries_of a → plain_entries es ≡ entries_of a
made_plain a es valid same = ap plain_entries same ∙ own_plain a valid

-- entries with a fault are no ACL's
pub faulty : (es : List Entry) (ns : List EntryNumbers) (fault : AclFault) → map numbers_of es ≡ ns → first_fault (plain_entries es) ≡ Some fault
    → IsListed ns None
faulty es ns fault is found a valid same =
    let all : plain_entries es ≡ entries_of a = made_plain a es valid (entries_same es (entries_of a) (is ∙ sym same)) in
    let none : first_fault (plain_entries es) ≡ None = ap first_fault all ∙ no_fault_in a valid in
    absurd cc

-- where the entries make an ACL, it is no other that has them in canonical order
pub only_made : (es : List Entry) (ns : List EntryNumbers) (b : AccessList) → map numbers_of es ≡ ns → ((a : AccessList) → IsListOf es a → a ≡ b)
    → list_numbers b ≢ ns → IsListed ns None
only_made es ns b is only other a valid same =
    let all : plain_entries es ≡ entries_of a = made_plain a es valid (entries_same es (entries_of a) (is ∙ sym same)) in
    let moved : IsPermutation (plain_entries es) (entries_of a) =
    subst (λ (l : List Entry). IsPermutation l (entries_of a)) (sym all) (IsPermutation-refl (entries_of a)) in
    let made : IsListOf es a = record { valid = valid; same = moved } in
    other (sym (ap list_numbers (only a made)) ∙ same)

-- the entries of the list, in canonical order, have other numbers
pub not_these : (b : AccessList) (es : List Entry) (ns : List EntryNumbers) (r : Bool) → es ≡ entries_of b → r ≡ false → (IsTrue r ↔ map numbers_of es ≡ ns)
    → list_numbers b ≢ ns
not_these b es ns r all is test same = let c : false ≡ true = sym is ∙ test.1 (ap (map numbers_of) all ∙ same) in absurd cc
