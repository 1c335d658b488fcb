-- Plans of requests for names: each is asked of a directory, and performed as who asks, but for look-ups that need nobody.
--     find_name, make_link, make_file, make_directory, remove, move_name, add_link
use Rattle.std.specs.Prelude.{ℕ, ◌==◌, nat_lt, Bool, true, false, not, ◌&&◌, ◌||◌, List, [], codes, bytes_eq, Option, Result, Ok, Err, if◌then◌else◌, bit_and}
use Rattle.fs_cred.specs.Credentials.{Credential}
use Rattle.fs_cred.specs.declared.errno.Errno.TheVariants.{EPERM, ENOENT, EEXIST, EINVAL}
use Rattle.fs_model.specs.declared.call.Call.{Call}
use Rattle.fs_model.specs.declared.call.Call.TheVariants.{Open as OpenCall, Lstat, Mkdir, Rmdir, Link as LinkCall, Symlink, Rename as RenameCall, Unlink}
use Rattle.fs_model.specs.declared.event.Event.TheVariants.{CallAt, CallBy}
use Rattle.fs_model.specs.declared.event.HandleCall.TheVariants as by_handle
use Rattle.fs_model.specs.declared.reply.Reply.{Reply}
use Rattle.fs_model.specs.declared.reply.Stamps.{Stamps}
use Rattle.fs_model.specs.declared.reply.Status.{Status}
use Rattle.fuse_plans.specs.declared.request_error.RequestError.{RequestError}
use Rattle.fuse_plans.specs.declared.request_error.RequestError.TheVariants.{Lacks}
use Rattle.fuse_plans.specs.RequestErrors.{failed, is_for}
use Rattle.fuse_plans.specs.declared.request_error.OtherErrno.TheVariants.{ESTALE}
use Rattle.fuse_plans.specs.declared.request.Asked.{Asked}
use Rattle.fuse_protocol.specs.declared.reply.Time.{Time}
use Rattle.fuse_plans.specs.declared.reply.ReplyBody.{ReplyBody}
use Rattle.fuse_plans.specs.declared.reply.ReplyBody.TheVariants.{Nothing, Found, Absent}
use Rattle.fuse_plans.specs.declared.reply.Attributes.{Attributes}
use Rattle.fuse_state.specs.Servers.{Server, node_of}
use Rattle.fuse_state.specs.Changes.{with_new_object, removed, moved, linked}
use Rattle.fuse_state.specs.declared.settings.Settings.{Settings}
use Rattle.fuse_plans.specs.Works.{Work, give, fail, kept, keep, ◌>>=◌, ◌>>◌, ask, attempt, obtain, replied_opened, replied_number}
use Rattle.fuse_plans.specs.Callers.{server_credential, actor_at, who_asks, inside, look_inside, look, the_number}
use Rattle.fuse_plans.specs.Masks.{list_hides}
use Rattle.fuse_plans.specs.Flags.{making}
use Rattle.fuse_plans.specs.Times.{told_stamps, times_in}
use Rattle.fuse_plans.specs.RemovedPlans.{look_before, inode_seen, last_shown}

-- ---- names, and what is told of them

-- Nobody asks for `.` or `..` by name: the kernel resolves these itself.
abbrev pub plain_name : List ℕ → Work (Unit {0})
plain_name name = if bytes_eq name (codes ".") || bytes_eq name (codes "..") then fail (failed EINVAL) else give tt

-- the directory of a name that is asked for
abbrev pub directory_for : ℕ → List ℕ → Work ℕ
directory_for node name = do
  plain_name name
  the_number node

-- the times are the machine's, where it has any
abbrev pub attributes : Server → Status → Option Stamps → Attributes
attributes s status stamps = record { status = status; times = times_in s status.ino stamps; valid = s.settings.keeping.attributes }

-- the name may be kept for so many seconds
abbrev pub found_body : ℕ → Status → Option Stamps → Server → ReplyBody
found_body name_valid status stamps s = Found (node_of s status.ino) name_valid (attributes s status stamps)

abbrev pub tell_entry : ℕ → Status → Option Stamps → Work ReplyBody
tell_entry name_valid status stamps = kept (found_body name_valid status stamps)

-- what stat(2) shows of an object that has a name, and its times
abbrev pub tell_named : ℕ → ℕ → Work ReplyBody
tell_named name_valid n = do
  status ← look n
  stamps ← told_stamps status.ino
  tell_entry name_valid status stamps

-- ---- look-ups

-- a directory that is gone has no names
abbrev pub or_absent : Result ℕ RequestError → Work ℕ
or_absent (Ok n) = give n
or_absent (Err (Lacks ESTALE)) = fail (failed ENOENT)
or_absent (Err e) = fail e

-- the directory in which a name is looked for
abbrev pub searched_directory : ℕ → List ℕ → Work ℕ
searched_directory node name = do
  plain_name name
  known ← attempt (the_number node)
  or_absent known

-- where the kernel has judged it may keep the name
abbrev pub judged_valid : Bool → Settings → ℕ
judged_valid nobody settings = if nobody then settings.keeping.names else 0

abbrev pub looked_up_body : Bool → Status → Option Stamps → Server → ReplyBody
looked_up_body nobody status stamps s = found_body (judged_valid nobody s.settings) status stamps s

-- nothing has the name, and the kernel has judged and keeps that
abbrev pub keeps_absent : Bool → Settings → RequestError → Bool
keeps_absent nobody settings e = nobody && (is_for ENOENT e && not (settings.keeping.absent == 0))

abbrev pub or_keep_absent : Bool → Settings → RequestError → Work ReplyBody
or_keep_absent nobody settings e = if keeps_absent nobody settings e then give (Absent settings.keeping.absent) else fail e

abbrev pub found_or_absent : Bool → Result Status RequestError → Work ReplyBody
found_or_absent nobody (Ok status) = do
  stamps ← told_stamps status.ino
  kept (looked_up_body nobody status stamps)
found_or_absent nobody (Err e) = do
  settings ← kept (λ s. s.settings)
  or_keep_absent nobody settings e

-- what someone finds under the name
abbrev pub find_inside : Bool → Credential → ℕ → List ℕ → Work ReplyBody
find_inside nobody cred d name = do
  seen ← attempt (look_inside cred d name)
  found_or_absent nobody seen

-- where the kernel has judged, the server looks
abbrev pub searcher : Asked → Work Credential
searcher r = if r.needs_nobody then give server_credential else who_asks r.cred

abbrev pub find_name : Asked → List ℕ → Work ReplyBody
find_name r name = do
  d ← searched_directory r.node name
  cred ← searcher r
  find_inside r.needs_nobody cred d name

-- ---- new objects

-- the kernel judges by lists, and keeps names
abbrev pub keeps_names : Settings → Bool
keeps_names settings = settings.posix_acl && not (settings.keeping.names == 0)

-- where it wasn't seen that the kernel follows the list it asks for each name
abbrev pub unless_hidden : ℕ → Result Bool RequestError → ℕ
unless_hidden name_valid (Ok hides) = if hides then 0 else name_valid
unless_hidden name_valid (Err e) = 0

abbrev pub new_valid_if : ℕ → ℕ → Bool → Work ℕ
new_valid_if d name_valid false = give 0
new_valid_if d name_valid true = do
  hides ← attempt (list_hides d)
  give (unless_hidden name_valid hides)

-- for how many seconds a new name in a directory may be kept
unfoldable pub new_valid : ℕ → Work ℕ
new_valid d = do
  settings ← kept (λ s. s.settings)
  new_valid_if d settings.keeping.names (keeps_names settings)

-- The number of what has been made in a directory counts once more, whether or not it can be shown.
unfoldable pub tell_made : Time → ℕ → ℕ → ℕ → Work ReplyBody
tell_made now name_valid d n = do
  keep (with_new_object now d n)
  tell_named name_valid n

-- who asks makes something with this mask in a directory
abbrev pub make_by : Asked → ℕ → ℕ → Call → Work ReplyBody
make_by r d umask call = do
  name_valid ← new_valid d
  cred ← who_asks r.cred
  reply ← obtain (CallAt (actor_at cred umask d d) call)
  n ← replied_number reply
  tell_made r.now name_valid d n

abbrev pub make_link : Asked → List ℕ → List ℕ → Work ReplyBody
make_link r name target = do
  d ← directory_for r.node name
  make_by r d 0 (Symlink target name)

abbrev pub make_directory : Asked → List ℕ → ℕ → ℕ → Work ReplyBody
make_directory r name mode umask = do
  d ← directory_for r.node name
  make_by r d (bit_and umask 0o777) (Mkdir name (bit_and mode 0o7777))

-- the type in a mode is that of a file, or none
abbrev pub is_of_file : ℕ → Bool
is_of_file mode = bit_and mode 0o170000 == 0 || bit_and mode 0o170000 == 0o100000

abbrev pub only_file : ℕ → Work (Unit {0})
only_file mode = if is_of_file mode then give tt else fail (failed EPERM)

-- a file is made as it is opened, and that is closed
abbrev pub make_closed : Asked → ℕ → ℕ → Call → Work ReplyBody
make_closed r d umask call = do
  name_valid ← new_valid d
  cred ← who_asks r.cred
  reply ← obtain (CallAt (actor_at cred umask d d) call)
  opened ← replied_opened reply
  ask (CallBy opened.0 by_handle.Close)
  tell_made r.now name_valid d opened.1

abbrev pub make_file : Asked → List ℕ → ℕ → ℕ → Work ReplyBody
make_file r name mode umask = do
  only_file mode
  d ← directory_for r.node name
  make_closed r d (bit_and umask 0o777) (OpenCall name making (bit_and mode 0o777))

-- ---- names that go

-- of a directory, or of something else
abbrev pub removal : Bool → List ℕ → Call
removal true name = Rmdir name
removal false name = Unlink name

-- with unlink or rmdir
abbrev pub remove : Asked → Bool → List ℕ → Work ReplyBody
remove r of_directory name = do
  d ← directory_for r.node name
  cred ← who_asks r.cred
  gone ← look_before of_directory d name
  last ← last_shown r.now gone
  inside cred d (removal of_directory name)
  keep (removed r.now d (inode_seen gone) last)
  give Nothing

-- the one flag is that nothing may be replaced
abbrev pub only_no_replace : ℕ → Work (Unit {0})
only_no_replace flags = if nat_lt 1 flags then fail (failed EINVAL) else give tt

abbrev pub none_there : Result Reply RequestError → Work (Unit {0})
none_there (Ok reply) = fail (failed EEXIST)
none_there (Err e) = if is_for ENOENT e then give tt else fail e

abbrev pub nothing_to_replace : ℕ → Credential → ℕ → List ℕ → Work (Unit {0})
nothing_to_replace flags cred d name = if flags == 0 then give tt else do
  there ← attempt (inside cred d (Lstat name))
  none_there there

-- names that may be asked for, and flags
abbrev pub may_move : List ℕ → List ℕ → ℕ → Work (Unit {0})
may_move name new_name flags = do
  only_no_replace flags
  plain_name name
  plain_name new_name

-- what has the one name gets the other
abbrev pub rename : Time → Credential → ℕ → List ℕ → ℕ → List ℕ → Work ReplyBody
rename now cred d name new new_name = do
  object ← look_before false d name
  replaced ← look_before true new new_name
  last ← last_shown now replaced
  obtain (CallAt (actor_at cred 0 d new) (RenameCall name new_name))
  keep (moved now d new (inode_seen object) (inode_seen replaced) last)
  give Nothing

abbrev pub move_name : Asked → List ℕ → ℕ → List ℕ → ℕ → Work ReplyBody
move_name r name new_node new_name flags = do
  may_move name new_name flags
  d ← the_number r.node
  new ← the_number new_node
  cred ← who_asks r.cred
  nothing_to_replace flags cred new new_name
  rename r.now cred d name new new_name

-- Who asks gives an object one more name. The kernel may not keep that: of the directory nothing was seen.
abbrev pub link_as : Asked → ℕ → ℕ → List ℕ → Work ReplyBody
link_as r n d name = do
  cred ← who_asks r.cred
  obtain (CallAt (actor_at cred 0 n d) (LinkCall [] name))
  keep (linked r.now d n)
  tell_named 0 n

abbrev pub add_link : Asked → ℕ → List ℕ → Work ReplyBody
add_link r old_node name = do
  d ← directory_for r.node name
  n ← the_number old_node
  link_as r n d name
