-- Where the ACL is no more than mode bits.
use Rattle.std.proofs.Common.{◌≡◌, ◌≢◌, ℕ, ◌/◌, ◌==◌, Bool, true, false, ◌||◌, Option, Some, None, refl, sym, ap, ◌∙◌, arith}
use Rattle.std.specs.Prelude.{if◌then◌else◌}
use Rattle.std.proofs.lemmas.Bool.Decides.{nat_tests}
use Rattle.posix_acl.specs.declared.entry.Perms.{Perms}
use Rattle.posix_acl.specs.Entries.{perms_of}
use Rattle.posix_acl.specs.AccessList.{minimal}
use Rattle.fs_cred.specs.declared.node.NodeKind.{NodeKind}
use Rattle.fs_cred.specs.declared.rule.Verdict.{Verdict}
use Rattle.fs_cred.specs.declared.rule.Rule.TheVariants.{Owner, OwningGroup, Other}
use Rattle.fs_cred.specs.Permissions.{holds}
use Rattle.fs_cred.specs.Credentials.{Credential, is_member}
use Rattle.fs_cred.specs.Decisions.{has_execute_bit, node_of_mode}
use Rattle.fs_cred.specs.Verdicts.{verdict, verdict_of, by_capability, by_entry, by_groups, by_groups_found}
use Rattle.fs_cred.proofs.ByCapability.{entries_are_left}

module _ (cred : Credential) (kind : NodeKind) (owner group mode : ℕ) (want : Perms) where
  -- there is no entry of a group but the owning group's
  owning_group_alone : is_member cred group ≡ true → by_groups cred (node_of_mode kind owner group mode) want ≡ by_entry (perms_of (mode / 8)) want OwningGroup
  owning_group_alone member = rw member (go (holds (perms_of (mode / 8)) want))
    where
      go : (held : Bool) → by_groups_found (node_of_mode kind owner group mode) want (if held then Some OwningGroup else None) (Some OwningGroup) ≡ verdict_of held OwningGroup
      go true = refl
      go false = refl

  pub verdict_by_group : by_capability cred kind (has_execute_bit (minimal mode)) want ≡ None → cred.uid ≢ owner → is_member cred group ≡ true
      → by_entry (perms_of (mode / 8)) want OwningGroup ≡ verdict cred (node_of_mode kind owner group mode) want
  verdict_by_group none apart member =
      let other : (cred.uid == owner) ≡ false = grind (arith, nat_tests) in
      sym (entries_are_left cred (node_of_mode kind owner group mode) want none ∙ rw other (owning_group_alone member))

  pub verdict_by_owner : by_capability cred kind (has_execute_bit (minimal mode)) want ≡ None
      → cred.uid ≡ owner
      → by_entry (perms_of (mode / 64)) want Owner ≡ verdict cred (node_of_mode kind owner group mode) want
  verdict_by_owner none same =
      let is : (cred.uid == owner) ≡ true = grind (arith, nat_tests) in
      sym (entries_are_left cred (node_of_mode kind owner group mode) want none ∙ rw is refl)

  pub verdict_by_others : by_capability cred kind (has_execute_bit (minimal mode)) want ≡ None
      → cred.uid ≢ owner
      → is_member cred group ≡ false
      → by_entry (perms_of mode) want Other ≡ verdict cred (node_of_mode kind owner group mode) want
  verdict_by_others none apart member =
      let other : (cred.uid == owner) ≡ false = grind (arith, nat_tests) in
      sym (entries_are_left cred (node_of_mode kind owner group mode) want none ∙ rw (other, member) refl)

  -- what is asked of the capabilities
  pub asked_by_mode : {a b d : Perms} {x : Bool} {r v : Option Verdict} → a ≡ perms_of (mode / 64)
      → b ≡ perms_of (mode / 8) → d ≡ perms_of mode → x ≡ (a.execute || b.execute || d.execute)
      → r ≡ by_capability cred kind x want → r ≡ v
      → by_capability cred kind (has_execute_bit (minimal mode)) want ≡ v
  asked_by_mode {a} {b} {d} {x} {r} {v} of_owner of_group of_others executable asked is =
      let bits : x ≡ has_execute_bit (minimal mode) = executable ∙ rw (of_owner, of_group, of_others) refl in
      ap (λ y. by_capability cred kind y want) (sym bits) ∙ sym asked ∙ is
