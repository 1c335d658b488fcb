-- Events whose numbers lie in the ranges of their types.
--     IsCall, IsHandleCall, IsEvent        each number fits, paths and contents are bytes, and ACLs and credentials are valid
use Rattle.std.specs.Prelude.{ℕ, ◌^◌, ◌<◌, Option, None, Some, ℤ, pos, negsuc}
use Rattle.fs_cred.specs.Credentials.{IsCredential}
use Rattle.fs_layout.specs.Bytes.{IsBytes}
use Rattle.posix_acl.specs.AccessList.{IsSomeAcl}
use Rattle.fs_model.specs.declared.call.Call.{Call}
use Rattle.fs_model.specs.declared.call.Call.TheVariants.{Open, Read, Write, Lseek, Close, Fstat, Stat, Lstat, Access, Truncate, Ftruncate, Chmod, Chown, GetAcl, SetAcl, Readdir, Mkdir, Rmdir, Link, Symlink, Readlink, Unlink, Rename, Chdir, Umask}
use Rattle.fs_model.specs.declared.event.HandleCall.{HandleCall}
use Rattle.fs_model.specs.declared.event.HandleCall.TheVariants.{Read as ReadBy, Write as WriteBy, Resize, Show, List as ListBy, Close as CloseBy}
use Rattle.fs_model.specs.declared.event.Event.{Event}
use Rattle.fs_model.specs.declared.event.Event.TheVariants.{Spawn, Exit, Call as Calls, CallAt, CallBy, Stamp, Clock, Fsync, Sync, Statfs, Arm, Restart}

abbrev pub IsSomeId : Option ℕ → Type 0
IsSomeId None = Unit {0}
IsSomeId (Some id) = id < 2 ^ 32

abbrev pub IsSomeCount : Option ℕ → Type 0
IsSomeCount None = Unit {0}
IsSomeCount (Some k) = k < 2 ^ 64

-- from -2^63 to 2^63 - 1
abbrev pub IsOffset : ℤ → Type 0
IsOffset (pos n) = n < 2 ^ 63
IsOffset (negsuc n) = n < 2 ^ 63

abbrev pub IsCall : Call → Type 0
IsCall (Open path flags mode) = IsBytes path × (mode < 2 ^ 16)
IsCall (Read fd len) = (fd < 2 ^ 64) × (len < 2 ^ 64)
IsCall (Write fd bytes) = (fd < 2 ^ 64) × IsBytes bytes
IsCall (Lseek fd whence by) = (fd < 2 ^ 64) × IsOffset by
IsCall (Close fd) = fd < 2 ^ 64
IsCall (Fstat fd) = fd < 2 ^ 64
IsCall (Stat path) = IsBytes path
IsCall (Lstat path) = IsBytes path
IsCall (Access path want) = IsBytes path
IsCall (Truncate path size) = IsBytes path × (size < 2 ^ 64)
IsCall (Ftruncate fd size) = (fd < 2 ^ 64) × (size < 2 ^ 64)
IsCall (Chmod path mode) = IsBytes path × (mode < 2 ^ 16)
IsCall (Chown path owner group) = IsBytes path × IsSomeId owner × IsSomeId group
IsCall (GetAcl path which) = IsBytes path
IsCall (SetAcl path which acl) = IsBytes path × IsSomeAcl acl
IsCall (Readdir fd) = fd < 2 ^ 64
IsCall (Mkdir path mode) = IsBytes path × (mode < 2 ^ 16)
IsCall (Rmdir path) = IsBytes path
IsCall (Link old new) = IsBytes old × IsBytes new
IsCall (Symlink target path) = IsBytes target × IsBytes path
IsCall (Readlink path) = IsBytes path
IsCall (Unlink path) = IsBytes path
IsCall (Rename old new) = IsBytes old × IsBytes new
IsCall (Chdir path) = IsBytes path
IsCall (Umask mask) = mask < 2 ^ 16

abbrev pub IsHandleCall : HandleCall → Type 0
IsHandleCall (ReadBy offset len) = (offset < 2 ^ 64) × (len < 2 ^ 64)
IsHandleCall (WriteBy offset bytes) = (offset < 2 ^ 64) × IsBytes bytes
IsHandleCall (Resize size) = size < 2 ^ 64
IsHandleCall Show = Unit {0}
IsHandleCall ListBy = Unit {0}
IsHandleCall CloseBy = Unit {0}

abbrev pub IsEvent : Event → Type 0
IsEvent (Spawn cred) = IsCredential cred
IsEvent (Exit pid) = pid < 2 ^ 64
IsEvent (Calls pid call) = (pid < 2 ^ 64) × IsCall call
IsEvent (CallAt actor call) = IsCredential actor.cred × (actor.umask < 2 ^ 16) × (actor.start < 2 ^ 32) × (actor.second_start < 2 ^ 32) × IsCall call
IsEvent (CallBy handle handle_call) = (handle < 2 ^ 64) × IsHandleCall handle_call
IsEvent (Stamp n atime mtime ctime) = (n < 2 ^ 32) × IsSomeCount atime × IsSomeCount mtime × IsSomeCount ctime
IsEvent (Clock now) = now < 2 ^ 64
IsEvent (Fsync pid fd) = (pid < 2 ^ 64) × (fd < 2 ^ 64)
IsEvent Sync = Unit {0}
IsEvent Statfs = Unit {0}
IsEvent (Arm k) = k < 2 ^ 64
IsEvent (Restart choice arm) = IsBytes choice × IsSomeCount arm
