-- What the entries of a list say, read one after another.
use Rattle.std.specs.Prelude.{ℕ, Option, None, Some, if◌then◌else◌}
use Rattle.posix_acl.specs.declared.entry.Tag.{Tag}
use Rattle.posix_acl.specs.declared.entry.Tag.TheVariants.{GroupObj, Group}
use Rattle.posix_acl.specs.declared.entry.Entry.{Entry}
use Rattle.fs_cred.specs.declared.rule.Rule.{Rule}
use Rattle.fs_cred.specs.declared.rule.Rule.TheVariants.{OwningGroup, NamedGroup}
use Rattle.fs_cred.specs.Credentials.{Credential, is_member}

-- the rule of an entry with this tag and id, if it is one of the caller's groups
abbrev pub rule_at : Credential → ℕ → Tag → ℕ → Option Rule
rule_at cred owning_group GroupObj id = if is_member cred owning_group then Some OwningGroup else None
rule_at cred owning_group Group id = if is_member cred id then Some (NamedGroup id) else None
rule_at cred owning_group _ id = None

abbrev pub group_rule : Credential → ℕ → Entry → Option Rule
group_rule cred owning_group e = rule_at cred owning_group e.tag e.id
