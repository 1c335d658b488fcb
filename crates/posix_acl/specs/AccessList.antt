-- An access control list by its parts, and what is read off it and made of it.
--     AccessList, IsAcl, IsSomeAcl        the parts; a valid list; one where there is one
--     entries_of, list_numbers        its entries in canonical order, and these as stored numbers
--     mode_bits, with_mode_bits, minimal, is_extended        the permission bits of a file mode
--     inherited        what a new object takes from a default ACL
use Rattle.std.specs.Prelude.{ℕ, ◌+◌, ◌*◌, ◌/◌, ◌<◌, ◌≤◌, ◌^◌, ◌==◌, Bool, not, ◌||◌, List, [], ◌∷◌, ◌++◌, length, map, Option, Some, None, IsSome, is_some, unwrap_or, if◌then◌else◌}
use Rattle.std.specs.List.{AllByRecursion}
use Rattle.posix_acl.specs.declared.entry.Perms.{Perms}
use Rattle.posix_acl.specs.declared.entry.Entry.{Entry}
use Rattle.posix_acl.specs.declared.entry.EntryNumbers.{EntryNumbers}
use Rattle.posix_acl.specs.declared.entry.Tag.{Tag}
use Rattle.posix_acl.specs.declared.entry.Tag.TheVariants.{UserObj, User, GroupObj, Group, Mask, Other}
use Rattle.posix_acl.specs.Entries.{perms_of, digit_of, meet, entry, numbers_of}

-- The three base entries, the named users and groups, and the mask, if there is one.
pub record AccessList : Type 0 where
  pub owner : Perms
  pub users : List (ℕ × Perms)
  pub group : Perms
  pub groups : List (ℕ × Perms)
  pub mask : Option Perms
  pub other : Perms

abbrev pub entry_count : AccessList → ℕ
entry_count a = 3 + length a.users + length a.groups + (if is_some a.mask then 1 else 0)

-- ids rise, so none stands twice
abbrev pub IdsRise : List (ℕ × Perms) → Type 0
IdsRise [] = Unit {0}
IdsRise (x ∷ xs) = AllByRecursion (λ y. x.0 < y.0) xs × IdsRise xs

-- ids are numbers of 32 bits
abbrev pub IdsFit : List (ℕ × Perms) → Type 0
IdsFit xs = AllByRecursion (λ x. x.0 < 2 ^ 32) xs

pub record IsAcl (a : AccessList) : Type 0 where
  pub users : IdsRise a.users
  pub user_ids : IdsFit a.users
  pub groups : IdsRise a.groups
  pub group_ids : IdsFit a.groups
  -- named entries need a mask
  pub masked : 0 < length a.users + length a.groups → IsSome a.mask
  pub few : entry_count a ≤ 32

-- valid, where there is one
abbrev pub IsSomeAcl : Option AccessList → Type 0
IsSomeAcl None = Unit {0}
IsSomeAcl (Some a) = IsAcl a

-- the named entries of one tag
abbrev pub named_entries : Tag → List (ℕ × Perms) → List Entry
named_entries tag xs = map (λ x. entry tag x.0 x.1) xs

abbrev pub mask_entries : Option Perms → List Entry
mask_entries None = []
mask_entries (Some p) = entry Mask 0 p ∷ []

-- The entries in canonical order.
abbrev pub entries_of : AccessList → List Entry
entries_of a =
    entry UserObj 0 a.owner ∷ (named_entries User a.users
    ++ (entry GroupObj 0 a.group ∷ (named_entries Group a.groups
    ++ (mask_entries a.mask ++ entry Other 0 a.other ∷ []))))

-- The entries as numbers, as an ACL is stored.
abbrev pub list_numbers : AccessList → List EntryNumbers
list_numbers a = map numbers_of (entries_of a)

-- what the group bits show: the mask, or the group's entry where there is none
abbrev pub group_class : AccessList → Perms
group_class a = unwrap_or a.mask a.group

-- the list with other permissions for one class
abbrev pub with_group_class : AccessList → Perms → AccessList
with_group_class a p = record a {
  group = if is_some a.mask then a.group else p;
  mask = if is_some a.mask then Some p else None;
}

abbrev pub with_classes : AccessList → Perms → Perms → Perms → AccessList
with_classes a owner group other = record (with_group_class a group) { owner = owner; other = other }

-- The nine permission bits.
abbrev pub mode_bits : AccessList → ℕ
mode_bits a = 64 * digit_of a.owner + 8 * digit_of (group_class a) + digit_of a.other

-- The list after these bits are given.
abbrev pub with_mode_bits : AccessList → ℕ → AccessList
with_mode_bits a mode = with_classes a (perms_of (mode / 64)) (perms_of (mode / 8)) (perms_of mode)

-- The access ACL of what is made under a default ACL: its classes lose what the mode lacks.
abbrev pub inherited : AccessList → ℕ → AccessList
inherited a mode =
    with_classes a (meet a.owner (perms_of (mode / 64))) (meet (group_class a) (perms_of (mode / 8))) (meet a.other (perms_of mode))

-- The three base entries that say the same as mode bits.
abbrev pub minimal : ℕ → AccessList
minimal mode = record {
  owner = perms_of (mode / 64);
  users = [];
  group = perms_of (mode / 8);
  groups = [];
  mask = None;
  other = perms_of mode;
}

-- Whether a list is more than its three base entries, and so more than mode bits.
abbrev pub is_extended : AccessList → Bool
is_extended a = is_some a.mask || not (length a.users + length a.groups == 0)
