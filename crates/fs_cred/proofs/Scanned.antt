-- Reading the entries of a list one after another finds what the list has.
use Rattle.std.proofs.Common.{◌≡◌, ◌≢◌, ℕ, ◌+◌, ◌<◌, ◌==◌, Bool, true, false, ◌&&◌, List, [], ◌∷◌, ◌++◌, Option, Some, None, is_some, cond, length, get_or, drop, refl, sym, ap, ◌∙◌, arith}
use Rattle.std.proofs.lemmas.Bool.Decides.{nat_tests}
use Rattle.std.proofs.lemmas.List.{at_drop_more}
use Rattle.posix_acl.specs.declared.entry.Perms.{Perms}
use Rattle.posix_acl.specs.declared.entry.Entry.{Entry}
use Rattle.posix_acl.specs.declared.entry.Tag.{Tag}
use Rattle.posix_acl.specs.declared.entry.Tag.TheVariants.{User, Group, Other}
use Rattle.posix_acl.specs.Entries.{is_tag, entry}
use Rattle.posix_acl.specs.AccessList.{AccessList, entries_of, named_entries, mask_entries}
use Rattle.fs_cred.specs.declared.node.Node.{Node}
use Rattle.fs_cred.specs.declared.rule.Rule.{Rule}
use Rattle.fs_cred.specs.declared.rule.Rule.TheVariants.{OwningGroup, NamedGroup}
use Rattle.fs_cred.specs.Permissions.{holds}
use Rattle.fs_cred.specs.Credentials.{Credential, is_member}
use Rattle.fs_cred.specs.Verdicts.{perms_named, first_named, first_of_groups}
use Rattle.fs_cred.specs.Scans.{group_rule}

-- what the first entry of the user gives
abbrev pub user_in : ℕ → List Entry → Option Perms
user_in user [] = None
user_in user (e ∷ es) = cond (is_tag e.tag User && e.id == user) (Some e.perms) (user_in user es)

-- entries with another tag are passed over
user_past_named : (user : ℕ) (tag : Tag) → is_tag tag User ≡ false → (xs : List (ℕ × Perms)) (es : List Entry) → user_in user (named_entries tag xs ++ es) ≡ user_in user es
user_past_named user tag other [] es = refl
user_past_named user tag other (x ∷ xs) es = rw other (user_past_named user tag other xs es)

user_last : (user : ℕ) (mask : Option Perms) (p : Perms) → user_in user (mask_entries mask ++ entry Other 0 p ∷ []) ≡ None
user_last user None p = refl
user_last user (Some m) p = refl

user_first : (user : ℕ) (xs : List (ℕ × Perms)) (es : List Entry) → user_in user es ≡ None → user_in user (named_entries User xs ++ es) ≡ perms_named user xs
user_first user [] es none = none
user_first user (x ∷ xs) es none = ap (cond (x.0 == user) (Some x.1)) (user_first user xs es none)

pub user_found : (user : ℕ) (a : AccessList) → user_in user (entries_of a) ≡ perms_named user a.users
user_found user a = user_first user a.users _ (user_past_named user Group refl a.groups _ ∙ user_last user a.mask a.other)

-- the rule of the first entry of the caller's groups that holds all of want
module _ (cred : Credential) (owning_group : ℕ) (want : Perms) where
  abbrev pub group_in : List Entry → Option Rule
  group_in [] = None
  group_in (e ∷ es) = cond (is_some (group_rule cred owning_group e) && holds e.perms want) (group_rule cred owning_group e) (group_in es)

  group_past_users : (xs : List (ℕ × Perms)) (es : List Entry) → group_in (named_entries User xs ++ es) ≡ group_in es
  group_past_users [] es = refl
  group_past_users (x ∷ xs) es = group_past_users xs es

  group_last : (mask : Option Perms) (p : Perms) → group_in (mask_entries mask ++ entry Other 0 p ∷ []) ≡ None
  group_last None p = refl
  group_last (Some m) p = refl

  -- an entry that counts where the caller is a member
  one_more : (member held : Bool) (rule : Rule) (rest found : Option Rule) → rest ≡ found
      → cond (is_some (cond member (Some rule) None) && held) (cond member (Some rule) None) rest ≡ cond (member && held) (Some rule) found
  one_more true true rule rest found same = refl
  one_more true false rule rest found same = same
  one_more false held rule rest found same = same

  group_first : (xs : List (ℕ × Perms)) (es : List Entry) → group_in es ≡ None → group_in (named_entries Group xs ++ es) ≡ first_named cred want xs
  group_first [] es none = none
  group_first (x ∷ xs) es none = one_more (is_member cred x.0) (holds x.1 want) (NamedGroup x.0) _ _ (group_first xs es none)

pub group_found : (cred : Credential) (node : Node) (want : Perms) → group_in cred node.group want (entries_of node.acl) ≡ first_of_groups cred node want
group_found cred node want =
    group_past_users cred node.group want node.acl.users _
    ∙ one_more cred node.group want (is_member cred node.group) (holds node.acl.group want) OwningGroup _ _
    (group_first cred node.group want node.acl.groups _ (group_last cred node.group want node.acl.mask node.acl.other))

-- ---- one step of a loop over the entries

pub same_id : (a b : ℕ) → a ≡ b → (a == b) ≡ true
same_id a b same = grind (arith, nat_tests)

pub other_id : (a b : ℕ) → a ≢ b → (a == b) ≡ false
other_id a b other = grind (arith, nat_tests)

module _ (user : ℕ) (es : List Entry) (i : ℕ) (d : Entry) (found : Option Perms) (below : i < length es)
    (so_far : user_in user (drop i es) ≡ found) where
  user_test : (passes : Bool) → (is_tag (get_or es i d).tag User && (get_or es i d).id == user) ≡ passes
      → cond passes (Some (get_or es i d).perms) (user_in user (drop (i + 1) es)) ≡ found
  user_test passes is =
      ap (λ t. cond t (Some (get_or es i d).perms) (user_in user (drop (i + 1) es))) (sym is)
      ∙ sym (at_drop_more (user_in user) es i d below) ∙ so_far

  pub user_here : is_tag (get_or es i d).tag User ≡ true → (get_or es i d).id ≡ user
      → Some (get_or es i d).perms ≡ found
  user_here tagged same = user_test true (ap (λ t. t && (get_or es i d).id == user) tagged ∙ same_id _ _ same)

  pub user_passed : (tagged same : Bool) → is_tag (get_or es i d).tag User ≡ tagged
      → ((get_or es i d).id == user) ≡ same
      → (tagged && same) ≡ false → user_in user (drop (i + 1) es) ≡ found
  user_passed tagged same a b none = user_test false
      (ap (λ t. t && (get_or es i d).id == user) a ∙ ap (λ t. tagged && t) b ∙ none)
