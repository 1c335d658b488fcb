-- The entries of a list, and the list of these entries.
use Rattle.std.proofs.Common.{◌≡◌, ℕ, ◌+◌, ◌<◌, true, false, List, [], ◌∷◌, ◌++◌, length, Option, Some, None, IsSome, unwrap_or, refl, sym, ap, ◌∙◌, subst, arith, append_assoc}
use Rattle.posix_acl.specs.declared.entry.Perms.{Perms}
use Rattle.posix_acl.specs.declared.entry.Entry.{Entry}
use Rattle.posix_acl.specs.declared.entry.Tag.{Tag}
use Rattle.posix_acl.specs.declared.entry.Tag.TheVariants.{UserObj, User, GroupObj, Group, Mask, Other}
use Rattle.posix_acl.specs.Entries.{is_tag, entry}
use Rattle.posix_acl.specs.AccessList.{AccessList, IsAcl, entries_of, named_entries, mask_entries, group_class}
use Rattle.posix_acl.specs.Stored.{perms_tagged, qualified, access_list, IsCanonical}

-- a tag's entries hide nothing of what another tag has behind them
pub perms_tagged-other : (t tag : Tag) → is_tag t tag ≡ false → (xs : List (ℕ × Perms)) (es : List Entry) → perms_tagged tag (named_entries t xs ++ es) ≡ perms_tagged tag es
perms_tagged-other t tag other [] es = refl
perms_tagged-other t tag other (x ∷ xs) es = rw other (perms_tagged-other t tag other xs es)

pub named-other : (t tag : Tag) → is_tag t tag ≡ false → (xs : List (ℕ × Perms)) (es : List Entry) → qualified tag (named_entries t xs ++ es) ≡ qualified tag es
named-other t tag other [] es = refl
named-other t tag other (x ∷ xs) es = rw other (named-other t tag other xs es)

pub named-same : (tag : Tag) → is_tag tag tag ≡ true → (xs : List (ℕ × Perms)) (es : List Entry) → qualified tag (named_entries tag xs ++ es) ≡ xs ++ qualified tag es
named-same tag same [] es = refl
named-same tag same (x ∷ xs) es = rw same (ap (λ ys. x ∷ ys) (named-same tag same xs es))

append_nil : {A : Type 0} (xs : List A) → xs ++ [] ≡ xs
append_nil [] = refl
append_nil (x ∷ xs) = ap (λ ys. x ∷ ys) (append_nil xs)

-- each part of a list is read back off its entries
users_back : (a : AccessList) → qualified User (entries_of a) ≡ a.users
users_back a =
    named-same User refl a.users _ ∙ ap (λ ys. a.users ++ ys) (named-other Group User refl a.groups _ ∙ masked a.mask)
    ∙ append_nil a.users
  where
    masked : (mask : Option Perms) → qualified User (mask_entries mask ++ entry Other 0 a.other ∷ []) ≡ []
    masked None = refl
    masked (Some p) = refl

groups_back : (a : AccessList) → qualified Group (entries_of a) ≡ a.groups
groups_back a =
    named-other User Group refl a.users _ ∙ named-same Group refl a.groups _ ∙ ap (λ ys. a.groups ++ ys) (masked a.mask)
    ∙ append_nil a.groups
  where
    masked : (mask : Option Perms) → qualified Group (mask_entries mask ++ entry Other 0 a.other ∷ []) ≡ []
    masked None = refl
    masked (Some p) = refl

group_back : (a : AccessList) → perms_tagged GroupObj (entries_of a) ≡ Some a.group
group_back a = perms_tagged-other User GroupObj refl a.users _

mask_back : (a : AccessList) → perms_tagged Mask (entries_of a) ≡ a.mask
mask_back a =
    perms_tagged-other User Mask refl a.users _ ∙ perms_tagged-other Group Mask refl a.groups _ ∙ masked a.mask
  where
    masked : (mask : Option Perms) → perms_tagged Mask (mask_entries mask ++ entry Other 0 a.other ∷ []) ≡ mask
    masked None = refl
    masked (Some p) = refl

other_back : (a : AccessList) → perms_tagged Other (entries_of a) ≡ Some a.other
other_back a =
    perms_tagged-other User Other refl a.users _ ∙ perms_tagged-other Group Other refl a.groups _ ∙ masked a.mask
  where
    masked : (mask : Option Perms) → perms_tagged Other (mask_entries mask ++ entry Other 0 a.other ∷ []) ≡ Some a.other
    masked None = refl
    masked (Some p) = refl

-- the list of the entries of a list is that list
pub access_list-entries_of : (a : AccessList) → access_list (entries_of a) ≡ a
access_list-entries_of a = rw (users_back a, group_back a, groups_back a, mask_back a, other_back a) refl

-- entries that are those of a valid list are kept as they are
pub kept : (es : List Entry) (a : AccessList) → es ≡ entries_of a → IsAcl a → IsCanonical es × (access_list es ≡ a)
kept es a same valid =
    let back : access_list es ≡ a = ap access_list same ∙ access_list-entries_of a in (
      record {
        canonical = same ∙ ap entries_of (sym back);
        valid = subst IsAcl (sym back) valid;
      },
      back,
    )

-- what stands between the owner's entry and the last two: the class entry and that of others
abbrev pub middle_of : List (ℕ × Perms) → Perms → List (ℕ × Perms) → Option Perms → List Entry
middle_of users group groups None = []
middle_of users group groups (Some p) =
    named_entries User users ++ (entry GroupObj 0 group ∷ named_entries Group groups)

abbrev pub class_tag : Option Perms → Tag
class_tag None = GroupObj
class_tag (Some p) = Mask

none_named : (users groups : List (ℕ × Perms)) → (0 < length users + length groups → ⊥) → (users ≡ []) × (groups ≡ [])
none_named [] [] h = (refl, refl)
none_named [] (x ∷ xs) h = absurd (h (omega arith))
none_named (x ∷ xs) groups h = absurd (h (omega arith))

pub by_ends : (a : AccessList) → IsAcl a → entries_of a ≡ entry UserObj 0 a.owner ∷ (middle_of a.users a.group a.groups a.mask ++ (entry (class_tag a.mask) 0 (group_class a) ∷ entry Other 0 a.other ∷ []))
by_ends a valid = ap (λ es. entry UserObj 0 a.owner ∷ es) (parts a.users a.groups a.mask valid.masked)
  where
    parts : (users groups : List (ℕ × Perms)) (mask : Option Perms) → (0 < length users + length groups → IsSome mask)
        → named_entries User users ++ (entry GroupObj 0 a.group ∷ (named_entries Group groups ++ (mask_entries mask ++ entry Other 0 a.other ∷ [])))
        ≡ middle_of users a.group groups mask ++ (entry (class_tag mask) 0 (unwrap_or mask a.group) ∷ entry Other 0 a.other ∷ [])
    parts users groups None masked =
        let none = none_named users groups (λ h. absurd (cc (masked h))) in rw (none.0, none.1) refl
    parts users groups (Some p) masked = sym (append_assoc (named_entries User users) (entry GroupObj 0 a.group ∷ named_entries Group groups) _)
