-- A directory whose access list Linux doesn't follow, as the server sees it.
--     list_of, acl_of        an ACL of an object, and where it says more than the mode
--     may_hide, hides        of a mode, and of a list
--     list_hides        of a directory
--     is_masked        of that of a node
use Rattle.std.specs.Prelude.{ℕ, ◌==◌, Bool, false, not, ◌&&◌, [], Option, None, Some, if◌then◌else◌, bit_and}
use Rattle.posix_acl.specs.declared.entry.Perms.{Perms}
use Rattle.posix_acl.specs.AccessList.{AccessList, is_extended}
use Rattle.posix_acl.specs.Entries.{digit_of}
use Rattle.fs_model.specs.declared.call.AclType.{AclType}
use Rattle.fs_model.specs.declared.call.AclType.TheVariants.{Access, Default}
use Rattle.fs_model.specs.declared.call.Call.TheVariants.{GetAcl}
use Rattle.fs_model.specs.declared.reply.Status.{Status}
use Rattle.fuse_plans.specs.Works.{Work, give, ◌>>=◌, replied_acl}
use Rattle.fuse_plans.specs.Callers.{server_credential, on, look, the_number}

-- an access ACL with three entries says no more than the mode
abbrev pub told_acl : AclType → Option AccessList → Option AccessList
told_acl Access (Some a) = if is_extended a then Some a else None
told_acl Default acl = acl
told_acl Access None = None

abbrev pub list_of : ℕ → AclType → Work (Option AccessList)
list_of n which = do
  reply ← on server_credential n (GetAcl [] which)
  replied_acl reply

abbrev pub acl_of : ℕ → AclType → Work (Option AccessList)
acl_of n which = do
  acl ← list_of n which
  give (told_acl which acl)

-- a mode grants the group class nothing, and others search
abbrev pub may_hide : ℕ → Bool
may_hide mode = bit_and mode 0o070 == 0 && not (bit_and mode 0o001 == 0)

abbrev pub grants_nothing : Option Perms → Bool
grants_nothing None = false
grants_nothing (Some mask) = digit_of mask == 0

-- The mask is `---`, and others may search: by acl(5) whom the list names may not, and Linux asks the entry for others.
abbrev pub hides : Option AccessList → Bool
hides None = false
hides (Some acl) = grants_nothing acl.mask && acl.other.execute

-- only where there may be such a list it is asked for
abbrev pub asks_list : ℕ → Status → Work Bool
asks_list n status = if may_hide status.mode then (do
  acl ← acl_of n Access
  give (hides acl)) else give false

abbrev pub list_hides : ℕ → Work Bool
list_hides n = do
  status ← look n
  asks_list n status

unfoldable pub is_masked : ℕ → Work Bool
is_masked node = do
  n ← the_number node
  list_hides n
