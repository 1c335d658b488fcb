-- Going over the entries of an access list tells what a user is granted by it.
--     named-found        some entry names the user
--     named-granted        each entry that names the user holds what is wanted
--     members-granted        so does each entry that is no user's
use Rattle.std.proofs.Common.{◌≡◌, ℕ, ◌==◌, Bool, true, false, not, ◌&&◌, ◌||◌, List, [], ◌∷◌, ◌++◌, Option, Some, None, cond, length, refl, sym, ap, ◌∙◌, arith}
use Rattle.std.proofs.lemmas.Bool.Decides.{nat_tests}
use Rattle.std.specs.List.{filter, list_any, list_all}
use Rattle.posix_acl.specs.declared.entry.Perms.{Perms}
use Rattle.posix_acl.specs.declared.entry.Entry.{Entry}
use Rattle.posix_acl.specs.declared.entry.Tag.{Tag}
use Rattle.posix_acl.specs.declared.entry.Tag.TheVariants.{UserObj, User, Group, Other}
use Rattle.posix_acl.specs.Entries.{is_tag, entry}
use Rattle.posix_acl.specs.AccessList.{AccessList, entries_of, named_entries, mask_entries}
use Rattle.fs_cred.specs.Permissions.{holds}
use Rattle.fuse_plans.specs.Nobody.{all_hold, entries_for, mask_passes, grants_members}

-- the entry names the user
abbrev pub is_for : ℕ → Entry → Bool
is_for uid e = is_tag e.tag User && e.id == uid

-- nothing is asked of entries that name others
abbrev pub passes_named : ℕ → Perms → Entry → Bool
passes_named uid want e = not (is_for uid e) || holds e.perms want

-- nothing is asked of the owner's entry, and of those that name users
abbrev pub is_of_users : Tag → Bool
is_of_users UserObj = true
is_of_users User = true
is_of_users _ = false

abbrev pub passes_members : Perms → Entry → Bool
passes_members want e = is_of_users e.tag || holds e.perms want

-- ---- some entry names the user

module _ (uid : ℕ) where
  any_past_groups : (xs : List (ℕ × Perms)) (es : List Entry) → list_any (is_for uid) (named_entries Group xs ++ es) ≡ list_any (is_for uid) es
  any_past_groups [] es = refl
  any_past_groups (x ∷ xs) es = any_past_groups xs es

  any_last : (mask : Option Perms) (p : Perms) → list_any (is_for uid) (mask_entries mask ++ entry Other 0 p ∷ []) ≡ false
  any_last None p = refl
  any_last (Some m) p = refl

  not_none : (x : ℕ × Perms) (xs : List (ℕ × Perms)) → (length (x ∷ xs) == 0) ≡ false
  not_none x xs = grind (arith, nat_tests)

  any_more : (here : Bool) (x : ℕ × Perms) (some : Bool) (xs : List (ℕ × Perms)) → some ≡ not (length xs == 0)
      → (here || some) ≡ not (length (cond here (x ∷ xs) xs) == 0)
  any_more true x some xs is = ap not (sym (not_none x xs))
  any_more false x some xs is = is

  any_first : (xs : List (ℕ × Perms)) (es : List Entry) → list_any (is_for uid) es ≡ false
      → list_any (is_for uid) (named_entries User xs ++ es) ≡ not (length (filter (λ e. e.0 == uid) xs) == 0)
  any_first [] es none = none
  any_first (x ∷ xs) es none = any_more (x.0 == uid) x _ _ (any_first xs es none)

pub named-found : (uid : ℕ) (a : AccessList) → list_any (is_for uid) (entries_of a) ≡ not (length (entries_for uid a) == 0)
named-found uid a = any_first uid a.users _ (any_past_groups uid a.groups _ ∙ any_last uid a.mask a.other)

-- ---- each entry that names the user holds what is wanted

module _ (uid : ℕ) (want : Perms) where
  all_past_groups : (xs : List (ℕ × Perms)) (es : List Entry) → list_all (passes_named uid want) (named_entries Group xs ++ es) ≡ list_all (passes_named uid want) es
  all_past_groups [] es = refl
  all_past_groups (x ∷ xs) es = all_past_groups xs es

  all_last : (mask : Option Perms) (p : Perms) → list_all (passes_named uid want) (mask_entries mask ++ entry Other 0 p ∷ []) ≡ true
  all_last None p = refl
  all_last (Some m) p = refl

  all_more : (here : Bool) (x : ℕ × Perms) (rest : Bool) (xs : List (ℕ × Perms)) → rest ≡ all_hold xs want
      → ((not here || holds x.1 want) && rest) ≡ all_hold (cond here (x ∷ xs) xs) want
  all_more true x rest xs is = ap (λ r. holds x.1 want && r) is
  all_more false x rest xs is = is

  all_first : (xs : List (ℕ × Perms)) (es : List Entry) → list_all (passes_named uid want) es ≡ true
      → list_all (passes_named uid want) (named_entries User xs ++ es) ≡ all_hold (filter (λ e. e.0 == uid) xs) want
  all_first [] es done = done
  all_first (x ∷ xs) es done = all_more (x.0 == uid) x _ _ (all_first xs es done)

pub named-granted : (uid : ℕ) (want : Perms) (a : AccessList) → list_all (passes_named uid want) (entries_of a) ≡ all_hold (entries_for uid a) want
named-granted uid want a = all_first uid want a.users _ (all_past_groups uid want a.groups _ ∙ all_last uid want a.mask a.other)

-- ---- each entry that is no user's holds it

module _ (want : Perms) where
  members_past_users : (xs : List (ℕ × Perms)) (es : List Entry) → list_all (passes_members want) (named_entries User xs ++ es) ≡ list_all (passes_members want) es
  members_past_users [] es = refl
  members_past_users (x ∷ xs) es = members_past_users xs es

  joined : (a b c : Bool) → (a && (b && c)) ≡ ((a && b) && c)
  joined true b c = refl
  joined false b c = refl

  alone : (b : Bool) → (b && true) ≡ b
  alone true = refl
  alone false = refl

  members_groups : (xs : List (ℕ × Perms)) (es : List Entry)
      → list_all (passes_members want) (named_entries Group xs ++ es) ≡ (all_hold xs want && list_all (passes_members want) es)
  members_groups [] es = refl
  members_groups (x ∷ xs) es =
      ap (λ r. holds x.1 want && r) (members_groups xs es) ∙ joined (holds x.1 want) (all_hold xs want) _

  members_last : (mask : Option Perms) (p : Perms) → list_all (passes_members want) (mask_entries mask ++ entry Other 0 p ∷ []) ≡ (mask_passes mask want && holds p want)
  members_last None p = alone _
  members_last (Some m) p = ap (λ r. holds m want && r) (alone _)

pub members-granted : (want : Perms) (a : AccessList) → list_all (passes_members want) (entries_of a) ≡ grants_members a want
members-granted want a =
    members_past_users want a.users _
    ∙ ap (λ r. holds a.group want && r)
    (members_groups want a.groups _ ∙ ap (λ r. all_hold a.groups want && r) (members_last want a.mask a.other))
