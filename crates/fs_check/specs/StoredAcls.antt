-- What a check finds in the sector of an ACL.
--     AreNoEntries        no entries have these numbers
--     IsListed        the ACL with these entries, in canonical order, or none where there is none
--     IsAclIn        the ACL that a sector has, or none where it has none
--     GoesWith        an ACL is one for these permission bits
--     HasGoodAcl        the content of a sector has such an ACL
--     HasListsInPlace        an inode has no ACL of a sort that it mustn't have
use Rattle.std.specs.Prelude.{◌≡◌, ◌≢◌, ℕ, List, map, Option, Some, None, IsTrue}
use Rattle.posix_acl.specs.declared.entry.Entry.{Entry}
use Rattle.posix_acl.specs.declared.entry.EntryNumbers.{EntryNumbers}
use Rattle.posix_acl.specs.Entries.{numbers_of}
use Rattle.posix_acl.specs.AccessList.{AccessList, IsAcl, is_extended, list_numbers, mode_bits}
use Rattle.fs_layout.specs.declared.inode.Kind.TheVariants as kinds
use Rattle.fs_layout.specs.declared.inode.Inode.{Inode}
use Rattle.fs_model.specs.Rules.{IsStoredAcl}

abbrev pub AreNoEntries : List EntryNumbers → Type 0
AreNoEntries ns = (es : List Entry) → map numbers_of es ≢ ns

abbrev pub IsListed : List EntryNumbers → Option AccessList → Type 0
IsListed ns None = (a : AccessList) → IsAcl a → list_numbers a ≢ ns
IsListed ns (Some a) = IsAcl a × (list_numbers a ≡ ns)

abbrev pub IsAclIn : List ℕ → Option AccessList → Type 0
IsAclIn content None = (a : AccessList) → IsStoredAcl content a → ⊥
IsAclIn content (Some a) = IsStoredAcl content a

-- an access ACL has the bits, and more than the three base entries; a default ACL goes with no bits
abbrev pub GoesWith : Option ℕ → AccessList → Type 0
GoesWith None a = Unit
GoesWith (Some bits) a = IsTrue (is_extended a) × (mode_bits a ≡ bits)

pub record HasGoodAcl (bits : Option ℕ) (content : List ℕ) : Type 0 where
  pub acl : AccessList
  pub stored : IsStoredAcl content acl
  pub fit : GoesWith bits acl

abbrev pub HasListsInPlace : Inode → Type 0
HasListsInPlace v = (v.kind ≡ kinds.Link → v.acl ≡ 0) × (v.kind ≢ kinds.Directory → v.default_acl ≡ 0)
