-- Plans of requests for attributes.
--     get_attributes, set_attributes        stat(2); and what changes it, in one order
--     read_link, ask_access
use Rattle.std.specs.Prelude.{ℕ, Bool, true, false, ◌&&◌, ◌||◌, not, [], Option, None, Some, is_some, Result, Ok, Err, if◌then◌else◌, bit_and}
use Rattle.posix_acl.specs.Entries.{perms_of}
use Rattle.posix_acl.specs.declared.entry.Perms.{Perms}
use Rattle.fs_cred.specs.Credentials.{Credential}
use Rattle.fs_cred.specs.declared.errno.Errno.TheVariants.{EPERM}
use Rattle.fs_cred.specs.Ownership.{counts_as_owner}
use Rattle.fs_model.specs.declared.call.Call.TheVariants.{Access, Truncate, Chmod, Chown, Readlink}
use Rattle.fs_model.specs.declared.event.Event.TheVariants.{Stamp, CallBy}
use Rattle.fs_model.specs.declared.event.HandleCall.TheVariants as by_handle
use Rattle.fs_model.specs.declared.reply.Reply.{Reply}
use Rattle.fs_model.specs.declared.reply.Status.{Status}
use Rattle.fuse_plans.specs.declared.request_error.RequestError.{RequestError}
use Rattle.fuse_plans.specs.declared.request_error.RequestError.TheVariants.{Lacks}
use Rattle.fuse_plans.specs.RequestErrors.{failed}
use Rattle.fuse_plans.specs.declared.request_error.OtherErrno.TheVariants.{EOPNOTSUPP}
use Rattle.fuse_plans.specs.declared.request.Asked.{Asked}
use Rattle.fuse_protocol.specs.declared.reply.Time.{Time}
use Rattle.fuse_protocol.specs.declared.operation.NewTime.{NewTime}
use Rattle.fuse_protocol.specs.declared.operation.NewTime.TheVariants.{Now, At}
use Rattle.fuse_protocol.specs.declared.operation.AttrChanges.{AttrChanges}
use Rattle.fuse_plans.specs.declared.reply.ReplyBody.{ReplyBody}
use Rattle.fuse_plans.specs.declared.reply.ReplyBody.TheVariants.{Nothing, Shown, Bytes}
use Rattle.fuse_state.specs.Servers.{Server, times_of, with_times_of, with_new_contents, with_change_time}
use Rattle.fuse_state.specs.Stamps.{stamp_of}
use Rattle.fuse_state.specs.declared.removed.RemovedDirectory.{RemovedDirectory}
use Rattle.fuse_plans.specs.Works.{Work, give, fail, kept, keep, ◌>>=◌, ◌>>◌, attempt, ask, obtain, replied_stamps, replied_target}
use Rattle.fuse_plans.specs.Callers.{server_credential, who_asks, on, look, the_number}
use Rattle.fuse_plans.specs.NamePlans.{attributes}
use Rattle.fuse_plans.specs.RemovedPlans.{or_of_removed}
use Rattle.fuse_plans.specs.FilePlans.{when}
use Rattle.fuse_plans.specs.Times.{disk_keeps_times, told_stamps}

abbrev pub tell_attributes : Status → Work ReplyBody
tell_attributes status = do
  stamps ← told_stamps status.ino
  kept (λ s. Shown (attributes s status stamps))

abbrev pub tell_object : ℕ → Work ReplyBody
tell_object node = do
  n ← the_number node
  status ← look n
  tell_attributes status

abbrev pub removed_body : RemovedDirectory → Server → ReplyBody
removed_body d s = Shown (record { status = d.status; times = d.times; valid = s.settings.keeping.attributes })

-- what is gone may be a directory that was removed
abbrev pub get_attributes : Asked → Work ReplyBody
get_attributes r = do
  told ← attempt (tell_object r.node)
  or_of_removed r.node removed_body told

-- ---- changes

-- by the handle, where there is one
abbrev pub resize_object : Credential → ℕ → ℕ → Option ℕ → Work Reply
resize_object cred n size None = on cred n (Truncate [] size)
resize_object cred n size (Some handle) = obtain (CallBy handle (by_handle.Resize size))

abbrev pub set_size : Time → Credential → ℕ → Option ℕ → Option ℕ → Work (Unit {0})
set_size now cred n handle None = give tt
set_size now cred n handle (Some size) = do
  resize_object cred n size handle
  keep (with_new_contents now n)

abbrev pub set_owners : Time → Credential → ℕ → AttrChanges → Work (Unit {0})
set_owners now cred n c = when (is_some c.uid || is_some c.gid) (do
  on cred n (Chown [] c.uid c.gid)
  keep (with_change_time now n))

abbrev pub set_mode : Time → Credential → ℕ → Option ℕ → Work (Unit {0})
set_mode now cred n None = give tt
set_mode now cred n (Some mode) = do
  on cred n (Chmod [] (bit_and mode 0o7777))
  keep (with_change_time now n)

-- a time is set to the present
abbrev pub is_now : Option NewTime → Bool
is_now (Some Now) = true
is_now new = false

-- a link is never written to
abbrev pub or_not_permitted : Result Reply RequestError → Work (Unit {0})
or_not_permitted (Ok reply) = give tt
or_not_permitted (Err (Lacks EOPNOTSUPP)) = fail (failed EPERM)
or_not_permitted (Err e) = fail e

-- The owner may, and who counts as owner; and who may write may set both to the present time.
abbrev pub may_set_times : Credential → ℕ → Bool → AttrChanges → Work (Unit {0})
may_set_times cred n true c = give tt
may_set_times cred n false c = if not (is_now c.atime && is_now c.mtime) then fail (failed EPERM) else do
  written ← attempt (on cred n (Access [] (perms_of 2)))
  or_not_permitted written

abbrev pub time_after : Time → Time → Option NewTime → Time
time_after now old None = old
time_after now old (Some Now) = now
time_after now old (Some (At seconds nanoseconds)) = record { seconds = seconds; nanoseconds = nanoseconds }

abbrev pub timed : Time → ℕ → AttrChanges → Server → Server
timed now n c s =
    let old = times_of s n in
    with_times_of n (record { atime = time_after now old.atime c.atime; mtime = time_after now old.mtime c.mtime; ctime = now }) s

-- what the machine is to have
abbrev pub stamp_set : Time → Option NewTime → Option ℕ
stamp_set now None = None
stamp_set now (Some new) = Some (stamp_of (time_after now now (Some new)))

abbrev pub set_stamps_if : Bool → Time → ℕ → AttrChanges → Work (Unit {0})
set_stamps_if false now n c = keep (timed now n c)
set_stamps_if true now n c = do
  reply ← ask (Stamp n (stamp_set now c.atime) (stamp_set now c.mtime) (Some (stamp_of now)))
  replied_stamps reply
  give tt

unfoldable pub set_stamps : Time → ℕ → AttrChanges → Work (Unit {0})
set_stamps now n c = do
  keeps ← disk_keeps_times
  set_stamps_if keeps now n c

abbrev pub set_times : Time → Credential → ℕ → Status → AttrChanges → Work (Unit {0})
set_times now cred n status c = when (is_some c.atime || is_some c.mtime) (do
  may_set_times cred n (counts_as_owner cred status.owner) c
  set_stamps now n c)

-- Size, then owner and group, then mode; what was done before a refusal stays.
abbrev pub change_attributes : Time → Credential → ℕ → AttrChanges → Work (Unit {0})
change_attributes now cred n c = do
  set_size now cred n c.handle c.size
  set_owners now cred n c
  set_mode now cred n c.mode

-- times, and what is there then
abbrev pub tell_times : Time → Credential → ℕ → AttrChanges → Work ReplyBody
tell_times now cred n c = do
  status ← look n
  set_times now cred n status c
  tell_attributes status

-- and then times
abbrev pub set_attributes : Asked → AttrChanges → Work ReplyBody
set_attributes r c = do
  n ← the_number r.node
  cred ← who_asks r.cred
  change_attributes r.now cred n c
  tell_times r.now cred n c

-- ---- links and access

abbrev pub tell_target : ℕ → Work ReplyBody
tell_target n = do
  reply ← on server_credential n (Readlink [])
  target ← replied_target reply
  give (Bytes target)

abbrev pub read_link : Asked → Work ReplyBody
read_link r = do
  n ← the_number r.node
  tell_target n

-- on a link it is never refused
abbrev pub or_of_link : Result Reply RequestError → Work (Unit {0})
or_of_link (Ok reply) = give tt
or_of_link (Err (Lacks EOPNOTSUPP)) = give tt
or_of_link (Err e) = fail e

-- who asks may do so much
abbrev pub may_access : Credential → ℕ → Perms → Work (Unit {0})
may_access cred n perms = do
  accessed ← attempt (on cred n (Access [] perms))
  or_of_link accessed

abbrev pub ask_access : Asked → ℕ → Work ReplyBody
ask_access r mask = do
  n ← the_number r.node
  cred ← who_asks r.cred
  may_access cred n (perms_of (bit_and mask 7))
  give Nothing
