-- Plans of requests for files: to open and create them, and what is done by a handle.
--     open_file, create_file, read_file, write_file, close_file
--     pieces_in        bytes, by as many as are written at once: a run, or where there is no space for one a move
use Rattle.std.specs.Prelude.{ℕ, ◌+◌, ◌/◌, ◌^◌, nat_lt, suc, zero, Bool, true, false, ◌&&◌, not, List, [], ◌∷◌, take, drop, length, Option, Result, Ok, Err, if◌then◌else◌, bit_and}
use Rattle.posix_acl.specs.Entries.{perms_of}
use Rattle.fs_cred.specs.Credentials.{Credential}
use Rattle.fs_cred.specs.declared.errno.Errno.TheVariants.{EEXIST, EINVAL, EFBIG, ENOSPC}
use Rattle.fs_model.specs.declared.call.Call.TheVariants.{Open as OpenCall, Access}
use Rattle.fs_model.specs.declared.event.Event.TheVariants.{CallAt, CallBy}
use Rattle.fs_model.specs.declared.event.HandleCall.TheVariants as by_handle
use Rattle.fs_model.specs.declared.reply.Reply.{Reply}
use Rattle.fs_model.specs.declared.reply.Stamps.{Stamps}
use Rattle.fs_model.specs.declared.reply.Status.{Status}
use Rattle.fuse_protocol.specs.declared.flags.OpenedFlags.{OpenedFlags}
use Rattle.fuse_protocol.specs.declared.reply.Time.{Time}
use Rattle.fs_model.specs.Limits.{move_limit, handle_write_limit}
use Rattle.fuse_plans.specs.declared.request_error.RequestError.{RequestError}
use Rattle.fuse_plans.specs.RequestErrors.{failed, is_for}
use Rattle.fuse_plans.specs.declared.request.Asked.{Asked}
use Rattle.fuse_protocol.specs.declared.operation.Extent.{Extent}
use Rattle.fuse_plans.specs.declared.reply.ReplyBody.{ReplyBody}
use Rattle.fuse_plans.specs.declared.reply.ReplyBody.TheVariants.{Nothing, Created, Opened, Bytes, Wrote}
use Rattle.fuse_state.specs.Servers.{Server, node_of, with_new_contents}
use Rattle.fuse_state.specs.Changes.{opened_or_made}
use Rattle.fuse_state.specs.declared.settings.Settings.{Settings}
use Rattle.fuse_plans.specs.Works.{Work, give, fail, kept, keep, ◌>>=◌, ◌>>◌, attempt, needed, obtain, or_closed, replied_status, replied_opened, replied_data, replied_count}
use Rattle.fuse_plans.specs.Callers.{server_credential, actor_at, who_asks, inside, on, look, the_number}
use Rattle.fuse_plans.specs.declared.mode.Mode.{Mode}
use Rattle.fuse_plans.specs.declared.mode.Mode.TheVariants.{Reads, Both}
use Rattle.fuse_plans.specs.Flags.{mode_in, is_exec, is_excl, is_trunc, reads_alone, opening, creating}
use Rattle.fuse_plans.specs.NamePlans.{plain_name, attributes, new_valid}
use Rattle.fuse_plans.specs.Times.{disk_keeps_times, told_stamps}

-- where it is so
abbrev pub when : Bool → Work (Unit {0}) → Work (Unit {0})
when true w = w
when false w = give tt

-- work of which only the error counts
abbrev pub done : {X : Type 0} → Work X → Work (Unit {0})
done w = w >> give tt

-- ---- to open and create

-- to run it is asked for as access(2) does
abbrev pub ask_first : Credential → ℕ → ℕ → Work (Unit {0})
ask_first cred n flags = when (is_exec flags) (done (on cred n (Access [] (perms_of 1))))

-- What may be run need not be read by who runs it: for that the server opens it.
abbrev pub opener : Credential → ℕ → Mode → Credential
opener cred flags mode = if is_exec flags && reads_alone flags mode then server_credential else cred

-- To lose its bytes a file is opened for writing too, so that both are asked before anything changes.
abbrev pub asked_mode : ℕ → Mode → Mode
asked_mode flags Reads = if is_trunc flags then Both else Reads
asked_mode flags mode = mode

abbrev pub touched_if : Bool → Time → ℕ → Server → Server
touched_if true now n s = with_new_contents now n s
touched_if false now n s = s

-- the kernel may keep what it has read of the file: KEEP_CACHE
abbrev pub file_flags : Settings → OpenedFlags
file_flags settings = record { 0 = if settings.keeping.pages then 2 else 0 }

abbrev pub opened_body : ℕ → Server → ReplyBody
opened_body handle s = Opened handle (file_flags s.settings)

-- once it is granted
abbrev pub open_object : Time → Credential → ℕ → ℕ → Mode → Work ReplyBody
open_object now cred n flags mode = do
  ask_first cred n flags
  reply ← on (opener cred flags mode) n (OpenCall [] (opening (asked_mode flags mode) (is_trunc flags)) 0)
  opened ← replied_opened reply
  keep (touched_if (is_trunc flags) now n)
  kept (opened_body opened.0)

abbrev pub open_file : Asked → ℕ → Work ReplyBody
open_file r flags = do
  n ← the_number r.node
  mode ← needed (failed EINVAL) (mode_in flags)
  cred ← who_asks r.cred
  open_object r.now cred n flags mode

-- what was opened, and whether it is new
abbrev pub or_opened : Credential → ℕ → List ℕ → Mode → ℕ → Result Reply RequestError → Work (Reply × Bool)
or_opened cred d name mode flags (Ok reply) = give (reply, true)
or_opened cred d name mode flags (Err e) = if is_for EEXIST e && not (is_excl flags) then (do
  reply ← inside cred d (OpenCall name (opening (asked_mode flags mode) (is_trunc flags)) 0)
  give (reply, false)) else fail e

-- makes a file, or opens what has the name
unfoldable pub open_or_make : Credential → ℕ → ℕ → List ℕ → Mode → ℕ → ℕ → Work (Reply × Bool)
open_or_make cred umask d name mode flags file_mode = do
  first ← attempt (obtain (CallAt (actor_at cred umask d d) (OpenCall name (creating mode) (bit_and file_mode 0o777))))
  or_opened cred d name mode flags first

-- what stat(2) shows of an object, and its times
abbrev pub show_timed : ℕ → Work (Status × Option Stamps)
show_timed n = do
  status ← look n
  stamps ← told_stamps status.ino
  give (status, stamps)

-- where nothing is shown what was opened is closed
unfoldable pub look_open : ℕ → ℕ → Work (Status × Option Stamps)
look_open handle n = do
  seen ← attempt (show_timed n)
  or_closed handle seen

abbrev pub created_body : ℕ → ℕ → Status → Option Stamps → Server → ReplyBody
created_body name_valid handle status stamps s =
    Created (node_of s status.ino) name_valid (attributes s status stamps) handle (file_flags s.settings)

-- the file is new, or it was found, with its bytes or without them
unfoldable pub tell_created : Time → ℕ → ℕ → Bool → Bool → ℕ × ℕ → Work ReplyBody
tell_created now name_valid d is_new is_cut opened = do
  keep (opened_or_made now d opened.1 is_new is_cut)
  seen ← look_open opened.0 opened.1
  kept (created_body name_valid opened.0 seen.0 seen.1)

-- who asks makes the file, or opens it
abbrev pub create_by : Time → ℕ → Credential → ℕ → ℕ → List ℕ → Mode → ℕ → ℕ → Work ReplyBody
create_by now name_valid cred umask d name mode flags file_mode = do
  opened ← open_or_make cred umask d name mode flags file_mode
  handle ← replied_opened opened.0
  tell_created now name_valid d opened.1 (is_trunc flags) handle

abbrev pub create_file : Asked → List ℕ → ℕ → ℕ → ℕ → Work ReplyBody
create_file r name flags file_mode umask = do
  plain_name name
  mode ← needed (failed EINVAL) (mode_in flags)
  d ← the_number r.node
  name_valid ← new_valid d
  cred ← who_asks r.cred
  create_by r.now name_valid cred (bit_and umask 0o777) d name mode flags file_mode

-- ---- by a handle

abbrev pub read_file : Extent → Work ReplyBody
read_file extent = do
  reply ← obtain (CallBy extent.handle (by_handle.Read extent.offset extent.size))
  bytes ← replied_data extent.size reply
  give (Bytes bytes)

unfoldable pub write_piece : ℕ → ℕ → List ℕ → Work ℕ
write_piece handle offset piece = do
  reply ← obtain (CallBy handle (by_handle.Write offset piece))
  replied_count (length piece) reply

-- what was written before a refusal counts
abbrev pub or_done : ℕ → Result ℕ RequestError → Work ℕ
or_done done (Ok count) = give count
or_done zero (Err e) = fail e
or_done (suc done) (Err e) = give 0

-- One piece after another, until one is short or refused.
unfoldable pub write_pieces : ℕ → ℕ → ℕ → List (List ℕ) → Work ℕ
write_pieces handle offset done [] = give done
write_pieces handle offset done (piece ∷ pieces) = do
  wrote ← attempt (write_piece handle (offset + done) piece)
  count ← or_done done wrote
  if nat_lt count (length piece) then give (done + count) else write_pieces handle offset (done + count) pieces

-- pieces of as many bytes as are written at once, `most`: so many pieces at most
abbrev pub pieces_in : ℕ → ℕ → List ℕ → List (List ℕ)
pieces_in most zero bytes = []
pieces_in most (suc k) [] = []
pieces_in most (suc k) (b ∷ bs) = take most (b ∷ bs) ∷ pieces_in most k (drop most (b ∷ bs))

abbrev pub pieces_of : ℕ → List ℕ → List (List ℕ)
pieces_of most bytes = pieces_in most (length bytes / most + 1) bytes

-- Where there is no space for a run, and so nothing was written, the same bytes are written by moves.
abbrev pub or_by_moves : ℕ → ℕ → List ℕ → Result ℕ RequestError → Work ℕ
or_by_moves handle offset bytes (Ok count) = give count
or_by_moves handle offset bytes (Err e) = if is_for ENOSPC e then write_pieces handle offset 0 (pieces_of move_limit bytes) else fail e

-- by runs, or by moves
unfoldable pub write_runs : ℕ → ℕ → List ℕ → Work ℕ
write_runs handle offset bytes = do
  wrote ← attempt (write_pieces handle offset 0 (pieces_of handle_write_limit bytes))
  or_by_moves handle offset bytes wrote

-- Where the server keeps times it has to know what is written to.
abbrev pub touch_open_if : Bool → Time → ℕ → Work (Unit {0})
touch_open_if true now handle = give tt
touch_open_if false now handle = do
  reply ← obtain (CallBy handle by_handle.Show)
  status ← replied_status reply
  keep (with_new_contents now status.ino)

unfoldable pub touch_open : Time → ℕ → Work (Unit {0})
touch_open now handle = do
  keeps ← disk_keeps_times
  touch_open_if keeps now handle

-- no file reaches so far: offsets are numbers of 63 bits
abbrev pub within_offsets : ℕ → List ℕ → Work (Unit {0})
within_offsets offset bytes = if nat_lt (offset + length bytes) (2 ^ 63) then give tt else fail (failed EFBIG)

abbrev pub write_file : Time → ℕ → ℕ → List ℕ → Work ReplyBody
write_file now handle offset bytes = do
  within_offsets offset bytes
  count ← write_runs handle offset bytes
  attempt (touch_open now handle)
  give (Wrote count)

abbrev pub close_file : ℕ → Work ReplyBody
close_file handle = do
  obtain (CallBy handle by_handle.Close)
  give Nothing
