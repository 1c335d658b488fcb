-- Who may do what to a file or a directory, and which rule says so: the access check of acl(5), with those of two
-- capabilities before it. The first case that applies decides.
--     Decides        the answer and its rule, a case for each rule
use Rattle.std.specs.Prelude.{◌≡◌, ◌≢◌, ℕ, ◌<◌, Bool, true, false, not, ◌&&◌, ◌||◌, Option, None, Some, IsTrue, IsFalse, Contains, ◌⊎◌}
use Rattle.posix_acl.specs.declared.entry.Perms.{Perms}
use Rattle.posix_acl.specs.AccessList.{AccessList, group_class, minimal}
use Rattle.fs_cred.specs.declared.node.Node.{Node}
use Rattle.fs_cred.specs.declared.node.NodeKind.{NodeKind}
use Rattle.fs_cred.specs.declared.node.NodeKind.TheVariants.{File, Directory}
use Rattle.fs_cred.specs.declared.rule.Rule.{Rule}
use Rattle.fs_cred.specs.declared.rule.Rule.TheVariants.{Owner, NamedUser, OwningGroup, NamedGroup, Mask, Other, Capability, NoExecuteBit}
use Rattle.fs_cred.specs.declared.caps.Caps.{Caps}
use Rattle.fs_cred.specs.Permissions.{holds, nothing}
use Rattle.fs_cred.specs.Capabilities.{cap_dac_override, cap_dac_read_search}
use Rattle.fs_cred.specs.Credentials.{Credential, is_capable, is_member}

-- a node whose ACL is no more than the bits of a mode
abbrev pub node_of_mode : NodeKind → ℕ → ℕ → ℕ → Node
node_of_mode kind owner group mode = record { kind = kind; owner = owner; group = group; acl = minimal mode }

abbrev pub is_file : NodeKind → Bool
is_file File = true
is_file Directory = false

-- one of the execute bits of the file mode is set
abbrev pub has_execute_bit : AccessList → Bool
has_execute_bit acl = acl.owner.execute || (group_class acl).execute || acl.other.execute

-- x is wanted on a regular file that has no execute bit
abbrev pub lacks_execute_bit : Node → Perms → Bool
lacks_execute_bit node want = want.execute && is_file node.kind && not (has_execute_bit node.acl)

-- what CAP_DAC_READ_SEARCH is good for: to read a file, and to read and search a directory
abbrev pub read_search : NodeKind → Perms
read_search File = record { read = true; write = false; execute = false }
read_search Directory = record { read = true; write = false; execute = true }

-- all of want lies within it, and the caller has it
abbrev pub may_read_search : Credential → NodeKind → Perms → Bool
may_read_search cred kind want = is_capable cred cap_dac_read_search && holds (read_search kind) want

-- the mask holds all of want, or there is no mask
abbrev pub passes_mask : Option Perms → Perms → Bool
passes_mask None want = true
passes_mask (Some mask) want = holds mask want

-- no capability decides
pub record IsPastCapabilities (cred : Credential) (node : Node) (want : Perms) : Type 0 where
  pub no_override : IsFalse (is_capable cred cap_dac_override)
  pub no_read_search : IsFalse (may_read_search cred node.kind want)

-- nor does the owner ask
pub record IsPastOwner (cred : Credential) (node : Node) (want : Perms) : Type 0 where
  pub past_capabilities : IsPastCapabilities cred node want
  pub not_owner : cred.uid ≢ node.owner

-- nor a named user
pub record IsPastUsers (cred : Credential) (node : Node) (want : Perms) : Type 0 where
  pub past_owner : IsPastOwner cred node want
  pub not_named : (perms : Perms) → ¬ (Contains node.acl.users (cred.uid, perms))

-- The entries of the groups that the caller is in, each with the rule that names it.
abbrev pub IsOfGroup : Credential → Node → Rule → Perms → Type 0
IsOfGroup cred node OwningGroup perms = IsTrue (is_member cred node.group) × (perms ≡ node.acl.group)
IsOfGroup cred node (NamedGroup group) perms = IsTrue (is_member cred group) × Contains node.acl.groups (group, perms)
IsOfGroup cred node _ perms = ⊥

-- In canonical order the owning group stands first, and then the named ones by rising id.
abbrev pub IsBefore : Rule → Rule → Type 0
IsBefore OwningGroup (NamedGroup group) = Unit {0}
IsBefore (NamedGroup lower) (NamedGroup group) = lower < group
IsBefore _ _ = ⊥

-- The rule names the first of these entries that holds all of want.
pub record IsFirstOfGroups (cred : Credential) (node : Node) (want : Perms) (rule : Rule) : Type 0 where
  pub perms : Perms
  pub is_of_group : IsOfGroup cred node rule perms
  pub holds_all : IsTrue (holds perms want)
  pub is_first : (r : Rule) (p : Perms) → IsOfGroup cred node r p → IsTrue (holds p want) → ¬ (IsBefore r rule)

-- One single entry has to hold all of want: the first that does grants, and where none does the first of all refuses.
abbrev pub ByGroup : Credential → Node → Perms → Bool → Rule → Type 0
ByGroup cred node want true rule =
    IsPastUsers cred node want × IsFirstOfGroups cred node want rule × IsTrue (passes_mask node.acl.mask want)
ByGroup cred node want false rule =
    IsPastUsers cred node want × IsFirstOfGroups cred node nothing rule
    × ((r : Rule) (p : Perms) → IsOfGroup cred node r p → IsFalse (holds p want))

-- The entry of the named user holds all of want, or that of a group does where no user is named.
abbrev pub HoldsBehindMask : Credential → Node → Perms → Type 0
HoldsBehindMask cred node want =
    ((perms : Perms) × Contains node.acl.users (cred.uid, perms) × IsTrue (holds perms want))
    ⊎ (IsPastUsers cred node want × ((rule : Rule) × (perms : Perms) × IsOfGroup cred node rule perms × IsTrue (holds perms want)))

-- CAP_DAC_OVERRIDE grants everything but to execute what nobody may.
abbrev pub ByOverride : Credential → Node → Perms → Caps → Type 0
ByOverride cred node want caps =
    (caps ≡ cap_dac_override) × IsTrue (is_capable cred cap_dac_override) × IsFalse (lacks_execute_bit node want)

-- CAP_DAC_READ_SEARCH grants what lies within it as a whole, and no part of what goes beyond it.
abbrev pub ByReadSearch : Credential → Node → Perms → Caps → Type 0
ByReadSearch cred node want caps =
    (caps ≡ cap_dac_read_search) × IsFalse (is_capable cred cap_dac_override) × IsTrue (may_read_search cred node.kind want)

-- Where this caller wants this of this node: whether it is granted, and by which rule.
abbrev pub Decides : Credential → Node → Perms → Bool → Rule → Type 0
-- Who has one of the two capabilities may, and one who has both does it by CAP_DAC_OVERRIDE.
Decides cred node want granted (Capability caps) =
    (ByOverride cred node want caps ⊎ ByReadSearch cred node want caps) × IsTrue granted
-- But nobody executes what has no execute bit by CAP_DAC_OVERRIDE.
Decides cred node want granted NoExecuteBit =
    IsTrue (is_capable cred cap_dac_override) × IsTrue (lacks_execute_bit node want) × IsFalse granted
-- 1. For the owner of the file the owner's entry decides. The mask has no say in it.
Decides cred node want granted Owner =
    IsPastCapabilities cred node want × (cred.uid ≡ node.owner) × (granted ≡ holds node.acl.owner want)
-- 2. For a named user that user's entry decides, and to grant it takes the mask too.
Decides cred node want granted (NamedUser user) =
    IsPastOwner cred node want × (user ≡ cred.uid)
    × ((perms : Perms) × Contains node.acl.users (user, perms) × (granted ≡ holds perms want))
    × (IsTrue granted → IsTrue (passes_mask node.acl.mask want))
-- 3. For a member of the owning group or of named groups their entries decide, and to grant it takes the mask too.
Decides cred node want granted OwningGroup = ByGroup cred node want granted OwningGroup
Decides cred node want granted (NamedGroup group) = ByGroup cred node want granted (NamedGroup group)
-- 2 and 3. Where such an entry holds all of want and the mask doesn't, the mask refuses.
Decides cred node want granted Mask =
    IsPastOwner cred node want × HoldsBehindMask cred node want × IsFalse (passes_mask node.acl.mask want) × IsFalse granted
-- 4. For everyone else the entry of others decides.
Decides cred node want granted Other =
    IsPastUsers cred node want × ((rule : Rule) (perms : Perms) → ¬ (IsOfGroup cred node rule perms))
    × (granted ≡ holds node.acl.other want)
-- The rules of ownership decide nothing here.
Decides cred node want granted _ = ⊥
