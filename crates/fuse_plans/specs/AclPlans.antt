-- Plans of requests for the two ACLs of acl(5), which are attributes to the kernel: xattr(7).
--     get_xattr, list_xattrs, set_xattr, remove_xattr
use Rattle.std.specs.Prelude.{ℕ, ◌+◌, ◌*◌, ◌==◌, nat_lt, Bool, true, false, List, [], ◌∷◌, ◌++◌, length, codes, Option, None, Some, is_some, Result, Ok, Err, if◌then◌else◌}
use Rattle.std.specs.Str.{bytes_eq}
use Rattle.posix_acl.specs.AccessList.{AccessList, entry_count, minimal}
use Rattle.fs_cred.specs.declared.errno.Errno.TheVariants.{EACCES, EINVAL, ENOTDIR}
use Rattle.fs_model.specs.declared.call.AclType.{AclType}
use Rattle.fs_model.specs.declared.call.AclType.TheVariants.{Access, Default}
use Rattle.fs_model.specs.declared.call.Call.TheVariants.{SetAcl}
use Rattle.fs_model.specs.declared.reply.Reply.{Reply}
use Rattle.fuse_plans.specs.declared.request_error.RequestError.{RequestError}
use Rattle.fuse_plans.specs.declared.request_error.RequestError.TheVariants.{Lacks}
use Rattle.fuse_plans.specs.RequestErrors.{failed, is_for}
use Rattle.fuse_plans.specs.declared.request_error.OtherErrno.TheVariants.{EOPNOTSUPP, ENODATA, ERANGE}
use Rattle.fuse_plans.specs.declared.request.Asked.{Asked}
use Rattle.fuse_plans.specs.declared.reply.ReplyBody.{ReplyBody}
use Rattle.fuse_plans.specs.declared.reply.ReplyBody.TheVariants.{Nothing, Bytes, Acl, Size}
use Rattle.fuse_state.specs.Servers.{with_change_time}
use Rattle.fuse_plans.specs.Works.{Work, give, fail, keep, ◌>>=◌, ◌>>◌, attempt, needed}
use Rattle.fuse_plans.specs.Callers.{who_asks, on, look, the_number}
use Rattle.fuse_plans.specs.Masks.{acl_of}
use Rattle.fuse_plans.specs.RemovedPlans.{or_of_removed}

abbrev pub access_name : List ℕ
access_name = codes "system.posix_acl_access"

abbrev pub default_name : List ℕ
default_name = codes "system.posix_acl_default"

abbrev pub acl_named : List ℕ → Option AclType
acl_named name = if bytes_eq name access_name then Some Access else if bytes_eq name default_name then Some Default else None

-- there are no others
abbrev pub the_acl : List ℕ → Work AclType
the_acl name = needed (Lacks EOPNOTSUPP) (acl_named name)

-- ---- what is there

abbrev pub acl_size : AccessList → ℕ
acl_size a = 4 + 8 * entry_count a

-- for a size of 0 how many bytes it has
abbrev pub sized : ℕ → ℕ → ReplyBody → Work ReplyBody
sized size has body = if size == 0 then give (Size has) else if nat_lt size has then fail (Lacks ERANGE) else give body

abbrev pub acl_of_node : ℕ → AclType → Work (Option AccessList)
acl_of_node node which = do
  n ← the_number node
  acl_of n which

-- An ACL of what a node names. A directory that was removed has none.
unfoldable pub acl_at : ℕ → AclType → Work (Option AccessList)
acl_at node which = do
  found ← attempt (acl_of_node node which)
  or_of_removed node (λ removed s. None) found

-- an ACL that is there, or how many bytes it has
abbrev pub tell_acl : ℕ → Option AccessList → Work ReplyBody
tell_acl size found = do
  acl ← needed (Lacks ENODATA) found
  sized size (acl_size acl) (Acl acl)

abbrev pub get_xattr : Asked → List ℕ → ℕ → Work ReplyBody
get_xattr r name size = do
  which ← the_acl name
  found ← acl_at r.node which
  tell_acl size found

abbrev pub name_if : List ℕ → Bool → List ℕ
name_if name false = []
name_if name true = name ++ 0 ∷ []

-- the names of those that are there, each with NUL
abbrev pub acl_names : Bool → Bool → List ℕ
acl_names access default = name_if access_name access ++ name_if default_name default

-- a link has none
abbrev pub names_if : ℕ → Result (Option AccessList) RequestError → Work (List ℕ)
names_if node (Ok access) = do
  default ← acl_at node Default
  give (acl_names (is_some access) (is_some default))
names_if node (Err (Lacks EOPNOTSUPP)) = give []
names_if node (Err e) = fail e

abbrev pub attribute_names : ℕ → Work (List ℕ)
attribute_names node = do
  access ← attempt (acl_at node Access)
  names_if node access

abbrev pub list_xattrs : Asked → ℕ → Work ReplyBody
list_xattrs r size = do
  names ← attribute_names r.node
  sized size (length names) (Bytes names)

-- ---- changes

-- no access ACL: the three entries of the present mode
abbrev pub is_of_mode_alone : AclType → Option AccessList → Bool
is_of_mode_alone Access None = true
is_of_mode_alone _ _ = false

abbrev pub acl_set : ℕ → AclType → Option AccessList → Work (Option AccessList)
acl_set n which acl = if is_of_mode_alone which acl then (do
  status ← look n
  give (Some (minimal status.mode))) else give acl

-- only a directory has a default ACL: EACCES, as setxattr(2) has it
abbrev pub or_not_for_files : Result Reply RequestError → Work (Unit {0})
or_not_for_files (Ok reply) = give tt
or_not_for_files (Err e) = if is_for ENOTDIR e then fail (failed EACCES) else fail e

abbrev pub set_acl : Asked → AclType → Option AccessList → Work ReplyBody
set_acl r which wanted = do
  n ← the_number r.node
  cred ← who_asks r.cred
  acl ← acl_set n which wanted
  set ← attempt (on cred n (SetAcl [] which acl))
  or_not_for_files set
  keep (with_change_time r.now n)
  give Nothing

abbrev pub set_xattr : Asked → List ℕ → Option (Option AccessList) → Work ReplyBody
set_xattr r name value = do
  which ← the_acl name
  acl ← needed (failed EINVAL) value
  set_acl r which acl

abbrev pub remove_xattr : Asked → List ℕ → Work ReplyBody
remove_xattr r name = do
  which ← the_acl name
  set_acl r which None
