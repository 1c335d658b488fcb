-- The laws of access decisions, and of ownership.
--     HasAnAnswer, HasOneAnswer, VerdictDecides        each question has one answer, which is computed
--     DecisionsNeedNamedGroups, OwnershipNeedsNamedGroups        of the caller's groups those count that are named
--     JustTheseCount        so the others may be left out
use Rattle.std.specs.Prelude.{◌≡◌, ℕ, Bool, List, [], ◌∷◌}
use Rattle.posix_acl.specs.declared.entry.Perms.{Perms}
use Rattle.posix_acl.specs.AccessList.{IsAcl}
use Rattle.fs_cred.specs.declared.node.Node.{Node}
use Rattle.fs_cred.specs.declared.rule.Rule.{Rule}
use Rattle.fs_cred.specs.Credentials.{Credential}
use Rattle.fs_cred.specs.Decisions.{Decides}
use Rattle.fs_cred.specs.Verdicts.{verdict}
use Rattle.fs_cred.specs.Ownership.{may_own, owns_or_may_chown, may_chown, may_chgrp, sticky_allows, keeps_set_group_id}
use Rattle.fs_cred.specs.Groups.{groups_named_by, AreAlikeOn, with_just}

-- Whoever wants whatever of whatever node, the empty set of permissions too: there is an answer with its rule.
abbrev pub HasAnAnswer : Type 0
HasAnAnswer =
    (cred : Credential) (node : Node) (want : Perms) → IsAcl node.acl
    → (granted : Bool) × (rule : Rule) × Decides cred node want granted rule

-- and there is no other
abbrev pub HasOneAnswer : Type 0
HasOneAnswer =
    (cred : Credential) (node : Node) (want : Perms) → IsAcl node.acl
    → (a b : Bool) (r s : Rule) → Decides cred node want a r → Decides cred node want b s → (a ≡ b) × (r ≡ s)

-- The answer is the one that is computed.
abbrev pub VerdictDecides : Type 0
VerdictDecides =
    (cred : Credential) (node : Node) (want : Perms) → IsAcl node.acl
    → Decides cred node want (verdict cred node want).yes (verdict cred node want).rule

-- ---- which groups count

-- What is decided on a node is the same for two callers who are alike on the groups that it names.
abbrev pub DecisionsNeedNamedGroups : Type 0
DecisionsNeedNamedGroups =
    (a b : Credential) (node : Node) (want : Perms) → AreAlikeOn (groups_named_by node) a b → verdict a node want ≡ verdict b node want

-- Of ownership only the group that is to be given, and that of a directory with S_ISGID, are asked for.
pub record OwnershipNeedsNamedGroups : Type 0 where
  pub own : (a b : Credential) (owner : ℕ) → AreAlikeOn [] a b → may_own a owner ≡ may_own b owner
  pub chown_at_all : (a b : Credential) (owner : ℕ) → AreAlikeOn [] a b → owns_or_may_chown a owner ≡ owns_or_may_chown b owner
  pub chown : (a b : Credential) (owner new_owner : ℕ) → AreAlikeOn [] a b → may_chown a owner new_owner ≡ may_chown b owner new_owner
  pub sticky : (a b : Credential) (is_sticky : Bool) (directory_owner owner : ℕ) → AreAlikeOn [] a b
      → sticky_allows a is_sticky directory_owner owner ≡ sticky_allows b is_sticky directory_owner owner
  pub chgrp : (a b : Credential) (group new_group : ℕ) → AreAlikeOn (new_group ∷ []) a b → may_chgrp a group new_group ≡ may_chgrp b group new_group
  pub set_group_id : (a b : Credential) (group : ℕ) → AreAlikeOn (group ∷ []) a b → keeps_set_group_id a group ≡ keeps_set_group_id b group

-- A caller and the same one with just those of its further groups that are among some are alike on these.
abbrev pub JustTheseCount : Type 0
JustTheseCount = (groups : List ℕ) (cred : Credential) → AreAlikeOn groups cred (with_just groups cred)
