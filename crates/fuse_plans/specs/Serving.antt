-- The plan of each request, and of requests one after another.
--     Task, plan_of        of an operation
--     answered_as        the answer, once it is known whether who asks counts
--     request_plan        of a request, with its answer
--     is_due, keep_due, keep_due_in        what was done is made to last, where that is due
--     served_plan        of a request, behind what is due
--     requests_plan        of several, one after another
use Rattle.std.specs.Prelude.{ℕ, ◌+◌, ◌/◌, nat_lt, nat_le, min, ◌==◌, ◌&&◌, ◌||◌, Bool, true, false, not, List, [], ◌∷◌, map, Option, None, Some, Result, Ok, Err, if◌then◌else◌, bit_and}
use Rattle.posix_acl.specs.AccessList.{AccessList}
use Rattle.fs_cred.specs.declared.errno.Errno.TheVariants.{EINVAL, ENOMEM}
use Rattle.fs_model.specs.declared.event.Event.TheVariants.{Statfs, Sync}
use Rattle.fuse_plans.specs.Plans.{Plan, Finish, followed_by}
use Rattle.fuse_plans.specs.declared.request_error.RequestError.{RequestError}
use Rattle.fuse_plans.specs.declared.request_error.RequestError.TheVariants.{Lacks}
use Rattle.fuse_plans.specs.RequestErrors.{failed}
use Rattle.fuse_plans.specs.declared.request_error.OtherErrno.TheVariants.{ENOSYS, EPROTO}
use Rattle.fuse_plans.specs.declared.request.Asked.{Asked}
use Rattle.fuse_plans.specs.Requests.{Request, asked_of}
use Rattle.fuse_protocol.specs.declared.operation.Offer.{Offer}
use Rattle.fuse_protocol.specs.declared.operation.Operation.{Operation}
use Rattle.fuse_protocol.specs.declared.operation.Operation.TheVariants.{Lookup, Forget, GetAttr, SetAttr, ReadLink, SymLink, MkNod, MkDir, Unlink, RmDir, Rename, Link, Open, Read, Write, StatFs, Release, FSync, SetXAttr, GetXAttr, ListXAttr, RemoveXAttr, Init, OpenDir, ReadDir, ReadDirPlus, ReleaseDir, FSyncDir, Access, Create, Interrupt, Destroy, BatchForget, SyncFs, Unknown}
use Rattle.fuse_protocol.specs.declared.reply.Time.{Time}
use Rattle.fuse_plans.specs.declared.reply.ReplyBody.{ReplyBody}
use Rattle.fuse_plans.specs.declared.reply.ReplyBody.TheVariants.{Space, Agreed}
use Rattle.fuse_plans.specs.declared.reply.Response.{Response}
use Rattle.fuse_plans.specs.declared.reply.Response.TheVariants.{Silence, Says, Fails}
use Rattle.fuse_state.specs.Servers.{Server, with_acls_offered, with_end, with_kept_at, without_nodes}
use Rattle.fuse_state.specs.declared.settings.Settings.{Settings}
use Rattle.fuse_plans.specs.Works.{Work, give, fail, kept, keep, ◌>>=◌, ◌>>◌, ask, obtain, replied_space}
use Rattle.fuse_plans.specs.Alterations.{says_change}
use Rattle.fuse_plans.specs.Nobody.{who_counts_in, is_nobody}
use Rattle.fuse_plans.specs.Times.{tell_time}
use Rattle.fuse_plans.specs.NamePlans.{find_name, make_link, make_file, make_directory, remove, move_name, add_link}
use Rattle.fuse_plans.specs.FilePlans.{open_file, create_file, read_file, write_file, close_file}
use Rattle.fuse_plans.specs.AttributePlans.{get_attributes, set_attributes, read_link, ask_access}
use Rattle.fuse_plans.specs.DirectoryPlans.{open_directory, read_directory, close_directory, sync_all}
use Rattle.fuse_plans.specs.ListingPlans.{read_directory_plus}
use Rattle.fuse_plans.specs.AclPlans.{get_xattr, list_xattrs, set_xattr, remove_xattr}

-- ---- the whole file system

-- where the kernel may keep pages: ASYNC_READ, PARALLEL_DIROPS, CACHE_SYMLINKS and HANDLE_KILLPRIV_V2
abbrev pub keeping_flags : Settings → ℕ
keeping_flags settings = if settings.keeping.pages then 0x10840001 else 0

-- ATOMIC_O_TRUNC, DONT_MASK and HANDLE_KILLPRIV; with larger writes BIG_WRITES and MAX_PAGES; where the kernel is to judge POSIX_ACL, and
-- with it DO_READDIRPLUS and READDIRPLUS_AUTO
abbrev pub wanted_flags : Settings → ℕ
wanted_flags settings =
    0x80048 + (if nat_lt 4096 settings.max_write then 0x400020 else 0) + (if settings.posix_acl then 0x106000 else 0) + keeping_flags settings

-- as many as the field holds
abbrev pub pages : Settings → ℕ
pages settings = if nat_lt 4096 settings.max_write then min 65535 ((settings.max_write + 4095) / 4096) else 0

-- what is agreed on; so many requests may wait
abbrev pub terms : ℕ → ℕ → ℕ → ℕ → ReplyBody
terms max_readahead flags max_write max_pages = Agreed (record {
  max_readahead = max_readahead;
  flags = record { 0 = flags };
  max_background = 16;
  congestion_threshold = 12;
  max_write = max_write;
  max_pages = max_pages;
})

abbrev pub agreed : Offer → Settings → ReplyBody
agreed offer settings = terms offer.max_readahead (bit_and offer.flags.0 (wanted_flags settings)) settings.max_write (pages settings)

-- of a later version the number alone is answered, and the kernel asks again
abbrev pub later_version : ReplyBody
later_version = terms 0 0 0 0

abbrev pub offers_acls : Offer → Bool
offers_acls offer = not (bit_and offer.flags.0 0x100000 == 0)

unfoldable pub begin : Offer → Work ReplyBody
begin offer = if nat_lt offer.major 7 then fail (Lacks EPROTO) else if nat_lt 7 offer.major then give later_version else do
  keep (with_acls_offered (offers_acls offer))
  kept (λ s. agreed offer s.settings)

unfoldable pub count_space : Work ReplyBody
count_space = do
  reply ← obtain Statfs
  free ← replied_space reply
  kept (λ s. Space s.settings.sectors free.0 s.settings.inodes free.1 s.settings.max_name)

unfoldable pub end : Work ReplyBody
end = do
  keep with_end
  sync_all

-- ---- each operation

-- What an operation takes: work, whose result is replied; or no reply, where the kernel forgets these nodes or none.
pub data Task : Type 0 where
  Replying : Work ReplyBody → Task
  Silent : List ℕ → Task

-- The value of an attribute is that of the request.
abbrev pub plan_of : Asked → Option (Option AccessList) → Operation → Task
plan_of r value (Lookup name) = Replying (find_name r name)
plan_of r value (Forget count) = Silent (r.node ∷ [])
plan_of r value GetAttr = Replying (get_attributes r)
plan_of r value (SetAttr changes) = Replying (set_attributes r changes)
plan_of r value ReadLink = Replying (read_link r)
plan_of r value (SymLink name target) = Replying (make_link r name target)
plan_of r value (MkNod name mode umask) = Replying (make_file r name mode umask)
plan_of r value (MkDir name mode umask) = Replying (make_directory r name mode umask)
plan_of r value (Unlink name) = Replying (remove r false name)
plan_of r value (RmDir name) = Replying (remove r true name)
plan_of r value (Rename name new_directory new_name flags) = Replying (move_name r name new_directory new_name flags)
plan_of r value (Link node name) = Replying (add_link r node name)
plan_of r value (Open flags) = Replying (open_file r flags.0)
plan_of r value (Read extent) = Replying (read_file extent)
plan_of r value (Write handle offset bytes) = Replying (write_file r.now handle offset bytes)
plan_of r value StatFs = Replying count_space
plan_of r value (Release handle) = Replying (close_file handle)
plan_of r value (FSync handle) = Replying sync_all
plan_of r value (SetXAttr name bytes) = Replying (set_xattr r name value)
plan_of r value (GetXAttr name size) = Replying (get_xattr r name size)
plan_of r value (ListXAttr size) = Replying (list_xattrs r size)
plan_of r value (RemoveXAttr name) = Replying (remove_xattr r name)
plan_of r value (Init offer) = Replying (begin offer)
plan_of r value OpenDir = Replying (open_directory r)
plan_of r value (ReadDir extent) = Replying (read_directory r.node extent)
plan_of r value (ReadDirPlus extent) = Replying (read_directory_plus r.needs_nobody r.node extent)
plan_of r value (ReleaseDir handle) = Replying (close_directory handle)
plan_of r value FSyncDir = Replying sync_all
plan_of r value (Access mask) = Replying (ask_access r mask)
plan_of r value (Create name flags mode umask) = Replying (create_file r name flags.0 mode umask)
plan_of r value Interrupt = Silent []
plan_of r value Destroy = Replying end
plan_of r value (BatchForget batch) = Silent (map (λ e. e.0) batch)
plan_of r value SyncFs = Replying sync_all
plan_of r value Unknown = Replying (fail (Lacks ENOSYS))

-- the machine is told the time before what says a change
abbrev pub told_first : Bool → Time → Task → Task
told_first false now task = task
told_first true now (Replying w) = Replying (tell_time now >> w)
told_first true now (Silent nodes) = Silent nodes

-- of a request whose body may not be of its form
abbrev pub asked_for : Asked → Option (Option AccessList) → Option Operation → Task
asked_for r value None = Replying (fail (failed EINVAL))
asked_for r value (Some operation) = told_first (says_change operation) r.now (plan_of r value operation)

-- ---- requests

abbrev pub response_of : Result ReplyBody RequestError → Response
response_of (Ok body) = Says body
response_of (Err e) = Fails e

-- Where memory is lacking for what is added, nothing is asked, and nothing changes.
abbrev pub answered : Bool → Task → Server → Plan (Response × Server)
answered true (Silent nodes) s = Finish (Silence, without_nodes nodes s)
answered false (Silent nodes) s = Finish (Silence, s)
answered true (Replying w) s = followed_by (w s) (λ r. Finish (response_of r.0, r.1))
answered false (Replying w) s = Finish (Fails (failed ENOMEM), s)

-- once it is known whether who asks counts
abbrev pub answered_as : Bool → Request → Server → Plan (Response × Server)
answered_as nobody r s = answered r.memory (asked_for (asked_of r nobody) r.value r.operation) s

unfoldable pub request_plan : Request → Server → Plan (Response × Server)
request_plan r s = followed_by (who_counts_in r.node r.uid r.operation s) (λ who. answered_as (is_nobody who) r s)

-- ---- what is due

-- So many seconds have passed since the server itself made all last, or the clock was set back.
abbrev pub is_due : Server → Time → Bool
is_due s now = nat_lt 0 s.settings.commit && (nat_lt now.seconds s.kept_at.seconds || nat_le (s.kept_at.seconds + s.settings.commit) now.seconds)

-- whatever is replied: a machine that can't make all last has halted
abbrev pub keep_due_if : Bool → Time → Work (Unit {0})
keep_due_if false now = give tt
keep_due_if true now = do
  ask Sync
  keep (with_kept_at now)

-- all is made to last, where that is due
unfoldable pub keep_due : Time → Work (Unit {0})
keep_due now = do
  due ← kept (λ s. is_due s now)
  keep_due_if due now

-- where the body isn't of its form nothing is asked for it
abbrev pub keep_due_in : Option Operation → Time → Work (Unit {0})
keep_due_in None now = give tt
keep_due_in (Some operation) now = keep_due now

-- First what is due is done, whoever asks and whatever for.
unfoldable pub served_plan : Request → Server → Plan (Response × Server)
served_plan r s = followed_by (keep_due_in r.operation r.now s) (λ u. request_plan r u.1)

-- ---- several requests

-- One after another: what each is answered, and what the server keeps then.
unfoldable pub requests_plan : List Request → Server → Plan (List Response × Server)
requests_plan [] s = Finish ([], s)
requests_plan (r ∷ rs) s =
    followed_by (served_plan r s)
    (λ first. followed_by (requests_plan rs first.1) (λ rest. Finish (first.0 ∷ rest.0, rest.1)))
