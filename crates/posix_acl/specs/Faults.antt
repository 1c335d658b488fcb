-- What keeps a list of entries, in any order, from being an access control list.
use Rattle.std.specs.Prelude.{ℕ, ◌==◌, Bool, false, ◌&&◌, ◌||◌, nat_lt, List, [], ◌∷◌, length, count_by, find, Option}
use Rattle.std.specs.List.{list_any}
use Rattle.posix_acl.specs.declared.entry.Entry.{Entry}
use Rattle.posix_acl.specs.declared.entry.Tag.{Tag}
use Rattle.posix_acl.specs.declared.entry.Tag.TheVariants.{UserObj, User, GroupObj, Group, Mask, Other}
use Rattle.posix_acl.specs.declared.fault.AclFault.{AclFault}
use Rattle.posix_acl.specs.declared.fault.AclFault.TheVariants.{MissingBase, TwiceBase, TwiceQualifier, NoMask, TwoMasks, TooMany, OutOfMemory, BadText}
use Rattle.posix_acl.specs.Entries.{is_tag, is_named, plain_entries}
use Rattle.posix_acl.specs.AccessList.{AccessList, IsAcl, entries_of}
use Rattle.std.specs.List.Sorted.{IsPermutation}

-- how many entries have the tag
abbrev pub count_tagged : Tag → List Entry → ℕ
count_tagged tag es = count_by (λ e. is_tag e.tag tag) es

-- how many entries have the tag and the id
abbrev pub count_qualified : Tag → ℕ → List Entry → ℕ
count_qualified tag id es = count_by (λ e. is_tag e.tag tag && e.id == id) es

abbrev pub has_fault : List Entry → AclFault → Bool
has_fault es MissingBase = count_tagged UserObj es == 0 || count_tagged GroupObj es == 0 || count_tagged Other es == 0
has_fault es TwiceBase = nat_lt 1 (count_tagged UserObj es) || nat_lt 1 (count_tagged GroupObj es) || nat_lt 1 (count_tagged Other es)
has_fault es TwiceQualifier = list_any (λ e. is_named e.tag && nat_lt 1 (count_qualified e.tag e.id es)) es
has_fault es NoMask = count_tagged Mask es == 0 && (nat_lt 0 (count_tagged User es) || nat_lt 0 (count_tagged Group es))
has_fault es TwoMasks = nat_lt 1 (count_tagged Mask es)
has_fault es TooMany = nat_lt 32 (length es)
has_fault es OutOfMemory = false
has_fault es BadText = false

-- The first fault in this order, or none: the entries make a list.
unfoldable pub first_fault : List Entry → Option AclFault
first_fault es =
    find (has_fault es) (MissingBase ∷ TwiceBase ∷ TwiceQualifier ∷ NoMask ∷ TwoMasks ∷ TooMany ∷ [])

-- The list has these entries, each with the id that counts.
pub record IsListOf (es : List Entry) (a : AccessList) : Type 0 where
  pub valid : IsAcl a
  pub same : IsPermutation (plain_entries es) (entries_of a)
