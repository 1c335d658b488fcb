-- Who counts of those who ask: a first plan of each request, in which that doesn't count yet.
--     changes_by_caller        what who asks is to change
--     needs_caller        what is done as who asks, and what may fail for its credential
--     needs_nobody        of an operation
--     asks_alone        what is asked of an object, and nothing else
--     grants_user        a user is granted it, whatever its groups and capabilities are
--     who_counts        of an operation
--     who_counts_in        of a request
use Rattle.std.specs.Prelude.{ℕ, ◌==◌, Bool, true, false, not, ◌&&◌, List, [], ◌∷◌, Option, None, Some, Result, Ok, Err, if◌then◌else◌, bit_and}
use Rattle.std.specs.List.{filter}
use Rattle.posix_acl.specs.declared.entry.Perms.{Perms}
use Rattle.posix_acl.specs.AccessList.{AccessList}
use Rattle.posix_acl.specs.Entries.{perms_of}
use Rattle.fs_cred.specs.Permissions.{holds}
use Rattle.fs_model.specs.declared.call.AclType.TheVariants.{Access as AccessAcl}
use Rattle.fuse_protocol.specs.declared.operation.Operation.{Operation}
use Rattle.fuse_protocol.specs.declared.operation.Operation.TheVariants.{Lookup, SetAttr, SymLink, MkNod, MkDir, Unlink, RmDir, Rename, Link, Open, SetXAttr, RemoveXAttr, OpenDir, ReadDirPlus, Access, Create}
use Rattle.fuse_state.specs.Servers.{Server}
use Rattle.fuse_plans.specs.declared.mode.Mode.{Mode}
use Rattle.fuse_plans.specs.declared.request.WhoCounts.{WhoCounts}
use Rattle.fuse_plans.specs.declared.request.WhoCounts.TheVariants.{Nobody, User, Process}
use Rattle.fuse_plans.specs.declared.request_error.RequestError.{RequestError}
use Rattle.fuse_plans.specs.Works.{Work, give, ◌>>=◌}
use Rattle.fuse_plans.specs.Flags.{mode_in, is_exec, reads_alone}
use Rattle.fuse_plans.specs.Callers.{the_number, look}
use Rattle.fuse_plans.specs.Plans.{Plan, Finish, followed_by}
use Rattle.fuse_plans.specs.Masks.{is_masked, list_of}

-- what who asks is to change
abbrev pub changes_by_caller : Operation → Bool
changes_by_caller (SetAttr changes) = true
changes_by_caller (SymLink name target) = true
changes_by_caller (MkNod name mode umask) = true
changes_by_caller (MkDir name mode umask) = true
changes_by_caller (Unlink name) = true
changes_by_caller (RmDir name) = true
changes_by_caller (Rename name new_directory new_name flags) = true
changes_by_caller (Link node name) = true
changes_by_caller (SetXAttr name value) = true
changes_by_caller (RemoveXAttr name) = true
changes_by_caller (Create name flags mode umask) = true
changes_by_caller _ = false

-- what is done as who asks, and what may fail for its credential
abbrev pub needs_caller : Operation → Bool
needs_caller (Lookup name) = true
needs_caller (Open flags) = true
needs_caller OpenDir = true
needs_caller (Access mask) = true
needs_caller operation = changes_by_caller operation

-- ---- whether who asks doesn't count

-- of what can't be seen the request's own plan says what is wrong
abbrev pub unless_masked : Result Bool RequestError → Bool
unless_masked (Ok masked) = not masked
unless_masked (Err e) = true

-- Where the kernel judges before it asks, it has judged the search of a directory by the same list, but for one that is masked.
abbrev pub is_judged : ℕ → Bool → Server → Plan Bool
is_judged node false s = Finish false
is_judged node true s = followed_by (is_masked node s) (λ r. Finish (unless_masked r.0))

-- The kernel judges by lists (`posix_acl`) in the default way of a mount, and not with `own_rules`: `settings_of` of `fs_program`. By its
-- form nothing changes of what the server keeps.
abbrev pub needs_nobody : ℕ → Operation → Server → Plan Bool
needs_nobody node (Lookup name) s = is_judged node s.settings.posix_acl s
needs_nobody node (ReadDirPlus extent) s = is_judged node s.settings.posix_acl s
needs_nobody node operation s = Finish (not (needs_caller operation))

-- ---- whether the user alone counts

-- what opening asks where nothing is to change: to run a file, or to read it
abbrev pub asks_to_open : ℕ → Option Mode → Option Perms
asks_to_open flags None = None
asks_to_open flags (Some mode) = if reads_alone flags mode then Some (perms_of (if is_exec flags then 1 else 4)) else None

-- what is asked of the object of the node, where nothing else is asked, and nothing changes
abbrev pub asks_alone : Operation → Option Perms
asks_alone (Lookup name) = Some (perms_of 1)
asks_alone (Open flags) = asks_to_open flags.0 (mode_in flags.0)
asks_alone OpenDir = Some (perms_of 4)
asks_alone (Access mask) = Some (perms_of (bit_and mask 7))
asks_alone _ = None

abbrev pub all_hold : List (ℕ × Perms) → Perms → Bool
all_hold [] want = true
all_hold (e ∷ es) want = holds e.1 want && all_hold es want

-- the entries for a user by its number
abbrev pub entries_for : ℕ → AccessList → List (ℕ × Perms)
entries_for uid acl = filter (λ e. e.0 == uid) acl.users

-- a named entry counts behind a mask
abbrev pub mask_holds : Option Perms → Perms → Bool
mask_holds None want = false
mask_holds (Some mask) want = holds mask want

-- there is no mask, or it holds all of want
abbrev pub mask_passes : Option Perms → Perms → Bool
mask_passes None want = true
mask_passes (Some mask) want = holds mask want

-- whichever groups someone is in, or none
abbrev pub grants_members : AccessList → Perms → Bool
grants_members acl want = holds acl.group want && (all_hold acl.groups want && (mask_passes acl.mask want && holds acl.other want))

abbrev pub grants_named : List (ℕ × Perms) → AccessList → Perms → Bool
grants_named [] acl want = grants_members acl want
grants_named (e ∷ es) acl want = all_hold (e ∷ es) want && mask_holds acl.mask want

-- By acl(5), with any groups and any capabilities: as the owner, as a named user, or else as a member of each group and of none.
abbrev pub grants_user : ℕ → ℕ → AccessList → Perms → Bool
grants_user owner uid acl want = if owner == uid then holds acl.owner want else grants_named (entries_for uid acl) acl want

abbrev pub is_granted_by : ℕ → ℕ → Perms → Option AccessList → Bool
is_granted_by owner uid want None = false
is_granted_by owner uid want (Some acl) = grants_user owner uid acl want

-- as the server sees the object of a node
unfoldable pub is_granted : ℕ → ℕ → Perms → Work Bool
is_granted node uid want = do
  n ← the_number node
  status ← look n
  acl ← list_of n AccessAcl
  give (is_granted_by status.owner uid want acl)

-- ---- who counts

abbrev pub or_process : Result Bool RequestError → WhoCounts
or_process (Ok true) = User
or_process _ = Process

-- what a user is granted whatever the process is
abbrev pub or_user : Bool → Option Perms → ℕ → ℕ → Server → Plan WhoCounts
or_user true asks node uid s = Finish Nobody
or_user false None node uid s = Finish Process
or_user false (Some want) node uid s = followed_by (is_granted node uid want s) (λ r. Finish (or_process r.0))

-- of an operation of a node that this user asks for
abbrev pub who_counts : ℕ → ℕ → Operation → Server → Plan WhoCounts
who_counts node uid operation s = followed_by (needs_nobody node operation s) (λ nobody. or_user nobody (asks_alone operation) node uid s)

-- where the body isn't of its form nothing is asked for it
abbrev pub who_counts_in : ℕ → ℕ → Option Operation → Server → Plan WhoCounts
who_counts_in node uid None s = Finish Nobody
who_counts_in node uid (Some operation) s = who_counts node uid operation s

abbrev pub is_nobody : WhoCounts → Bool
is_nobody Nobody = true
is_nobody _ = false
