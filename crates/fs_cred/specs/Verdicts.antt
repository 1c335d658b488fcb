-- The access decision, computed.
--     verdict        the one answer that Decides allows, and its rule
use Rattle.std.specs.Prelude.{ℕ, ◌==◌, Bool, true, false, not, ◌&&◌, List, [], ◌∷◌, Option, None, Some, if◌then◌else◌}
use Rattle.posix_acl.specs.declared.entry.Perms.{Perms}
use Rattle.posix_acl.specs.AccessList.{AccessList}
use Rattle.fs_cred.specs.declared.node.Node.{Node}
use Rattle.fs_cred.specs.declared.node.NodeKind.{NodeKind}
use Rattle.fs_cred.specs.declared.rule.Rule.{Rule}
use Rattle.fs_cred.specs.declared.rule.Rule.TheVariants.{Owner, NamedUser, OwningGroup, NamedGroup, Mask, Other, Capability, NoExecuteBit}
use Rattle.fs_cred.specs.declared.rule.Verdict.{Verdict}
use Rattle.fs_cred.specs.Permissions.{holds, nothing}
use Rattle.fs_cred.specs.Capabilities.{cap_dac_override, cap_dac_read_search}
use Rattle.fs_cred.specs.Credentials.{Credential, is_capable, is_member}
use Rattle.fs_cred.specs.Decisions.{is_file, lacks_execute_bit, may_read_search, passes_mask}

abbrev pub verdict_of : Bool → Rule → Verdict
verdict_of granted rule = record { yes = granted; rule = rule }

-- what the entry with the id gives
abbrev pub perms_named : ℕ → List (ℕ × Perms) → Option Perms
perms_named id [] = None
perms_named id (e ∷ es) = if e.0 == id then Some e.1 else perms_named id es

-- the first entry, of those with the ids of the caller's groups, that holds all of want
abbrev pub first_named : Credential → Perms → List (ℕ × Perms) → Option Rule
first_named cred want [] = None
first_named cred want (e ∷ es) = if is_member cred e.0 && holds e.1 want then Some (NamedGroup e.0) else first_named cred want es

-- the first such entry, with the owning group before them
abbrev pub first_of_groups : Credential → Node → Perms → Option Rule
first_of_groups cred node want =
    if is_member cred node.group && holds node.acl.group want then Some OwningGroup
    else first_named cred want node.acl.groups

-- an entry behind the mask holds all of want
abbrev pub past_mask : AccessList → Perms → Rule → Verdict
past_mask acl want rule = if passes_mask acl.mask want then verdict_of true rule else verdict_of false Mask

abbrev pub by_override : Node → Perms → Verdict
by_override node want =
    if lacks_execute_bit node want then verdict_of false NoExecuteBit else verdict_of true (Capability cap_dac_override)

-- an entry that the mask has no say in
abbrev pub by_entry : Perms → Perms → Rule → Verdict
by_entry perms want rule = verdict_of (holds perms want) rule

abbrev pub by_named_user : Node → Perms → ℕ → Perms → Verdict
by_named_user node want user perms =
    if holds perms want then past_mask node.acl want (NamedUser user) else verdict_of false (NamedUser user)

-- the first entry of the caller's groups that holds all of want decides, else the first of them, else that of others
abbrev pub by_groups_found : Node → Perms → Option Rule → Option Rule → Verdict
by_groups_found node want (Some rule) _ = past_mask node.acl want rule
by_groups_found node want None (Some rule) = verdict_of false rule
by_groups_found node want None None = by_entry node.acl.other want Other

abbrev pub by_groups : Credential → Node → Perms → Verdict
by_groups cred node want = by_groups_found node want (first_of_groups cred node want) (first_of_groups cred node nothing)

abbrev pub by_user_found : Credential → Node → Perms → Option Perms → Verdict
by_user_found cred node want (Some perms) = by_named_user node want cred.uid perms
by_user_found cred node want None = by_groups cred node want

-- the cases of acl(5)
abbrev pub by_entries : Credential → Node → Perms → Verdict
by_entries cred node want =
    if cred.uid == node.owner then by_entry node.acl.owner want Owner
    else by_user_found cred node want (perms_named cred.uid node.acl.users)

unfoldable pub verdict : Credential → Node → Perms → Verdict
verdict cred node want =
    if is_capable cred cap_dac_override then by_override node want
    else (if may_read_search cred node.kind want then verdict_of true (Capability cap_dac_read_search)
    else by_entries cred node want)

-- what a capability decides, if one does, of a node of this kind that has an execute bit, or none
abbrev pub by_capability : Credential → NodeKind → Bool → Perms → Option Verdict
by_capability cred kind executable want =
    if is_capable cred cap_dac_override
    then Some (if want.execute && is_file kind && not executable then verdict_of false NoExecuteBit else verdict_of true (Capability cap_dac_override))
    else (if may_read_search cred kind want then Some (verdict_of true (Capability cap_dac_read_search)) else None)
