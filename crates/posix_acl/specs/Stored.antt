-- The list that a vector of entries holds.
use Rattle.std.specs.Prelude.{◌≡◌, ℕ, false, List, [], ◌∷◌, Option, Some, None, if◌then◌else◌}
use Rattle.posix_acl.specs.declared.entry.Perms.{Perms}
use Rattle.posix_acl.specs.declared.entry.Entry.{Entry}
use Rattle.posix_acl.specs.declared.entry.Tag.{Tag}
use Rattle.posix_acl.specs.declared.entry.Tag.TheVariants.{UserObj, User, GroupObj, Group, Mask, Other}
use Rattle.posix_acl.specs.Entries.{is_tag}
use Rattle.posix_acl.specs.AccessList.{AccessList, IsAcl, entries_of}

-- what the first entry with the tag gives
abbrev pub perms_tagged : Tag → List Entry → Option Perms
perms_tagged tag [] = None
perms_tagged tag (e ∷ es) = if is_tag e.tag tag then Some e.perms else perms_tagged tag es

abbrev pub base_perms : Option Perms → Perms
base_perms None = record { read = false; write = false; execute = false }
base_perms (Some p) = p

-- the ids and permissions of the entries with the tag
abbrev pub qualified : Tag → List Entry → List (ℕ × Perms)
qualified tag [] = []
qualified tag (e ∷ es) = if is_tag e.tag tag then (e.id, e.perms) ∷ qualified tag es else qualified tag es

abbrev pub access_list : List Entry → AccessList
access_list es = record {
  owner = base_perms (perms_tagged UserObj es);
  users = qualified User es;
  group = base_perms (perms_tagged GroupObj es);
  groups = qualified Group es;
  mask = perms_tagged Mask es;
  other = base_perms (perms_tagged Other es);
}

-- the entries are those of a valid list, in canonical order
pub record IsCanonical (es : List Entry) : Type 0 where
  pub canonical : es ≡ entries_of (access_list es)
  pub valid : IsAcl (access_list es)
