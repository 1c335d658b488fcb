-- What the owner of an object may do, and who has a capability.
--     MayOwn, OwnsOrMayChown, MayChown, MayChgrp, StickyAllows        to whom each question is answered yes
--     may_own, owns_or_may_chown, may_chown, may_chgrp, sticky_allows        the answers: yes, or the rule that refuses
--     KeepsSetGroupId, keeps_set_group_id        who sets a directory's S_ISGID
use Rattle.std.specs.Prelude.{◌≡◌, ℕ, ◌==◌, Bool, not, ◌||◌, if◌then◌else◌, IsTrue, IsFalse, ◌⊎◌, Result, Ok, Err}
use Rattle.fs_cred.specs.declared.rule.Rule.{Rule}
use Rattle.fs_cred.specs.declared.rule.Rule.TheVariants.{NotOwner, NoCapability, NotMember, Sticky}
use Rattle.fs_cred.specs.Capabilities.{cap_chown, cap_fowner, cap_fsetid}
use Rattle.fs_cred.specs.Credentials.{Credential, is_capable, is_member}

-- ---- who may

-- to change the mode or the ACL of an object: who has CAP_FOWNER, or its owner
abbrev pub MayOwn : Credential → ℕ → Type 0
MayOwn cred owner = IsTrue (is_capable cred cap_fowner) ⊎ (cred.uid ≡ owner)

-- to ask for another owner or group of an object at all: its owner, or who has CAP_CHOWN, and CAP_FOWNER doesn't count here
abbrev pub OwnsOrMayChown : Credential → ℕ → Type 0
OwnsOrMayChown cred owner = (cred.uid ≡ owner) ⊎ IsTrue (is_capable cred cap_chown)

-- then to give it an owner: who has CAP_CHOWN, or it has that owner already
abbrev pub MayChown : Credential → ℕ → ℕ → Type 0
MayChown cred owner new_owner = IsTrue (is_capable cred cap_chown) ⊎ (new_owner ≡ owner)

-- and to give it a group: who has CAP_CHOWN, or it has that group already, or the caller is in it
abbrev pub MayChgrp : Credential → ℕ → ℕ → Type 0
MayChgrp cred group new_group = IsTrue (is_capable cred cap_chown) ⊎ ((new_group ≡ group) ⊎ IsTrue (is_member cred new_group))

-- to remove or rename an object: the sticky bit is off, or the caller may own the object, or its directory
abbrev pub StickyAllows : Credential → Bool → ℕ → ℕ → Type 0
StickyAllows cred sticky directory_owner owner = IsFalse sticky ⊎ (MayOwn cred owner ⊎ MayOwn cred directory_owner)

-- to set S_ISGID of a directory by its mode: who has CAP_FSETID, or is in its group; nobody else is told that it stays off
abbrev pub KeepsSetGroupId : Credential → ℕ → Type 0
KeepsSetGroupId cred group = IsTrue (is_capable cred cap_fsetid) ⊎ IsTrue (is_member cred group)

-- ---- the same as answers

-- yes, or the rule that refuses; what allows has no name
abbrev pub Answer : Type 0
Answer = Result (Unit {0}) Rule

abbrev pub allowed_if : Bool → Rule → Answer
allowed_if test rule = if test then Ok tt else Err rule

-- the caller is the owner, or has CAP_FOWNER and so counts as every owner
abbrev pub counts_as_owner : Credential → ℕ → Bool
counts_as_owner cred owner = is_capable cred cap_fowner || cred.uid == owner

abbrev pub may_own : Credential → ℕ → Answer
may_own cred owner = allowed_if (counts_as_owner cred owner) NotOwner

abbrev pub owns_or_may_chown : Credential → ℕ → Answer
owns_or_may_chown cred owner = allowed_if (cred.uid == owner || is_capable cred cap_chown) NotOwner

abbrev pub may_chown : Credential → ℕ → ℕ → Answer
may_chown cred owner new_owner = allowed_if (is_capable cred cap_chown || new_owner == owner) NoCapability

abbrev pub may_chgrp : Credential → ℕ → ℕ → Answer
may_chgrp cred group new_group = allowed_if (is_capable cred cap_chown || new_group == group || is_member cred new_group) NotMember

abbrev pub sticky_allows : Credential → Bool → ℕ → ℕ → Answer
sticky_allows cred sticky directory_owner owner = allowed_if (not sticky || counts_as_owner cred owner || counts_as_owner cred directory_owner) Sticky

abbrev pub keeps_set_group_id : Credential → ℕ → Bool
keeps_set_group_id cred group = is_capable cred cap_fsetid || is_member cred group
