-- Of a caller's groups only those count that are named.
use Rattle.std.proofs.Common.{◌≡◌, ℕ, ◌==◌, Bool, true, false, ◌&&◌, ◌||◌, List, [], ◌∷◌, map, Option, Some, None, cond, refl, sym, ap, ◌∙◌, arith}
use Rattle.std.specs.Prelude.{Contains, if◌then◌else◌}
use Rattle.std.specs.List.{filter, list_any}
use Rattle.std.specs.Cmp.{nat_eq_equiv}
use Rattle.std.proofs.lemmas.Bool.Decides.{nat_tests}
use Rattle.std.proofs.lemmas.Map.Views.{any-filter_same, list_any-from_Contains}
use Rattle.posix_acl.specs.declared.entry.Perms.{Perms}
use Rattle.fs_cred.specs.declared.node.Node.{Node}
use Rattle.fs_cred.specs.declared.rule.Rule.{Rule}
use Rattle.fs_cred.specs.declared.rule.Rule.TheVariants.{Owner, NamedGroup, OwningGroup}
use Rattle.fs_cred.specs.Permissions.{holds, nothing}
use Rattle.fs_cred.specs.Credentials.{Credential, is_member}
use Rattle.fs_cred.specs.Verdicts.{verdict, perms_named, first_named, first_of_groups, by_entry, by_named_user, by_groups_found, by_user_found, by_entries}
use Rattle.fs_cred.specs.Groups.{groups_named_by, AreAlikeOn, with_just}
use Rattle.fs_cred.specs.Laws.{OwnershipNeedsNamedGroups}
use Rattle.fs_cred.proofs.Lookups.{Contains-head, Contains-tail}

module _ (a b : Credential) (want : Perms) where
  -- entries of groups in which both are, or neither is
  same_named : (es : List (ℕ × Perms)) → ((group : ℕ) → Contains (map (λ e. e.0) es) group → is_member a group ≡ is_member b group)
      → first_named a want es ≡ first_named b want es
  same_named [] same = refl
  same_named (e ∷ es) same =
      let rest = same_named es (λ group has. same group (Contains-tail e.0 group (map (λ e. e.0) es) has)) in
      let here = same e.0 (Contains-head e.0 (map (λ e. e.0) es)) in
      ap (λ m. if m && holds e.1 want then Some (NamedGroup e.0) else first_named a want es) here
      ∙ ap (λ found. if is_member b e.0 && holds e.1 want then Some (NamedGroup e.0) else found) rest

  pub same_of_groups : (node : Node) → AreAlikeOn (groups_named_by node) a b → first_of_groups a node want ≡ first_of_groups b node want
  same_of_groups node alike =
      let names = map (λ e. e.0) node.acl.groups in
      let rest = same_named node.acl.groups (λ group has. alike.members group (Contains-tail node.group group names has)) in
      let here = alike.members node.group (Contains-head node.group names) in
      ap (λ m. if m && holds node.acl.group want then Some OwningGroup else first_named a want node.acl.groups) here
      ∙ ap (λ found. if is_member b node.group && holds node.acl.group want then Some OwningGroup else found) rest

module _ (a b : Credential) (node : Node) (want : Perms) (alike : AreAlikeOn (groups_named_by node) a b) where
  same_by_user : (found : Option Perms) → by_user_found a node want found ≡ by_user_found b node want found
  same_by_user (Some perms) = ap (λ user. by_named_user node want user perms) alike.uid
  same_by_user None =
      ap (λ found. by_groups_found node want found (first_of_groups a node nothing)) (same_of_groups a b want node alike)
      ∙ ap (by_groups_found node want (first_of_groups b node want)) (same_of_groups a b nothing node alike)

  same_by_entries : by_entries a node want ≡ by_entries b node want
  same_by_entries =
      ap (λ v. if a.uid == node.owner then by_entry node.acl.owner want Owner else v) (same_by_user (perms_named a.uid node.acl.users))
      ∙ ap (λ user. if user == node.owner then by_entry node.acl.owner want Owner
      else by_user_found b node want (perms_named user node.acl.users)) alike.uid

  pub same_verdict : verdict a node want ≡ verdict b node want
  unfolding verdict
  same_verdict = rw (alike.caps, same_by_entries) refl

pub same_owner : OwnershipNeedsNamedGroups
same_owner = record {
  own = λ a b owner alike. rw (alike.uid, alike.caps) refl;
  chown_at_all = λ a b owner alike. rw (alike.uid, alike.caps) refl;
  chown = λ a b owner new_owner alike. rw (alike.caps) refl;
  sticky = λ a b is_sticky directory_owner owner alike. rw (alike.uid, alike.caps) refl;
  chgrp = λ a b group new_group alike. (let member = alike.members new_group (Contains-head new_group []) in rw (alike.caps, member) refl);
  set_group_id = λ a b group alike. (let member = alike.members group (Contains-head group []) in rw (alike.caps, member) refl);
}

-- the test finds k where k is among the groups
is_among : (groups : List ℕ) (group k : ℕ) → Contains groups group → (k == group) ≡ true → list_any (λ g. k == g) groups ≡ true
is_among groups group k has same =
    let at : k ≡ group = grind (arith, nat_tests) in
    rw at (list_any-from_Contains nat_eq_equiv group groups has)

pub just_alike : (groups : List ℕ) (cred : Credential) → AreAlikeOn groups cred (with_just groups cred)
just_alike groups cred = record {
  uid = refl;
  caps = refl;
  members = λ group has.
      ap (λ found. cred.gid == group || found)
      (sym (any-filter_same (λ g. g == group) (λ k. list_any (λ g. k == g) groups) true (λ k same. is_among groups group k has same) cred.groups));
}
