-- Requests: what is known beside the bytes of one, and for whom it is performed.
--     Outside, credential_for        what is known, and the credential of who asks
--     Request        who asks for what
--     asked_of        the same for a plan, once it is known whether who asks counts
use Rattle.std.specs.Prelude.{ℕ, nat_le, Bool, List, length, Option, None, Some, if◌then◌else◌, bit_and}
use Rattle.posix_acl.specs.AccessList.{AccessList}
use Rattle.fs_cred.specs.declared.caps.Caps.{Caps}
use Rattle.fs_cred.specs.Capabilities.{usual_caps}
use Rattle.fs_cred.specs.Credentials.{Credential, credential, groups_limit}
use Rattle.fuse_protocol.specs.declared.operation.Operation.{Operation}
use Rattle.fuse_protocol.specs.declared.reply.Time.{Time}
use Rattle.fuse_plans.specs.declared.request.Asked.{Asked}

-- The groups of the process that asks, where they are known; its capabilities; the present time; and whether there is memory
-- for what is added.
pub record Outside : Type 0 where
  pub groups : Option (List ℕ)
  pub caps : Caps
  pub now : Time
  pub memory : Bool

-- ---- who asks

abbrev pub are_known : List ℕ → Bool
are_known groups = nat_le (length groups) groups_limit

-- the capabilities of the user, less those that the process lacks
abbrev pub caps_left : ℕ → Caps → Caps
caps_left uid held = record { 0 = bit_and (usual_caps uid).0 held.0 }

abbrev pub credential_with : ℕ → ℕ → Caps → Option (List ℕ) → Option Credential
credential_with uid gid caps None = None
credential_with uid gid caps (Some groups) = if are_known groups then Some (credential uid gid groups (caps_left uid caps)) else None

-- None where not all groups are known: an entry for a group may deny.
abbrev pub credential_for : ℕ → ℕ → Outside → Option Credential
credential_for uid gid outside = credential_with uid gid outside.caps outside.groups

-- ---- requests

-- The number of a request; who asks, of which node, and when: the user, and the credential; what for, where its body is of its form. The value of an
-- attribute is an ACL, or none where that has no entries; and nothing where its bytes aren't of the form. And whether there is
-- memory for what is added.
pub record Request : Type 0 where
  pub unique : ℕ
  pub node : ℕ
  pub uid : ℕ
  pub cred : Option Credential
  pub now : Time
  pub operation : Option Operation
  pub value : Option (Option AccessList)
  pub memory : Bool

-- by whom it is performed where who asks doesn't count, or counts
abbrev pub asked_of : Request → Bool → Asked
asked_of r nobody = record { node = r.node; needs_nobody = nobody; cred = r.cred; now = r.now }
