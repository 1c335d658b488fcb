-- Pieces of plans, which read and change what a server keeps.
--     Work        what is asked of the machine, and then a value, or why there is none, and what the server keeps
--     give, fail, kept, keep, ◌>>=◌, ◌>>◌, attempt        those that ask nothing, one after another, and with their error as a value
--     ask, obtain, or_closed        one event; a refusal as an error; and what is open by a handle is closed before an error
--     refusal_in, is_refused_for        whether a reply refuses
--     status_of_reply, replied_status, ..        what a reply holds
use Rattle.std.specs.Prelude.{ℕ, nat_le, Bool, false, List, length, Option, None, Some, Result, Ok, Err, if◌then◌else◌}
use Rattle.posix_acl.specs.AccessList.{AccessList}
use Rattle.fs_cred.specs.declared.errno.Errno.{Errno}
use Rattle.fs_cred.specs.declared.errno.Errno.TheVariants.{EIO}
use Rattle.fs_cred.specs.declared.refusal.Refusal.{Refusal}
use Rattle.fs_model.specs.declared.event.Event.{Event}
use Rattle.fs_model.specs.declared.event.Event.TheVariants.{CallBy}
use Rattle.fs_model.specs.declared.event.HandleCall.TheVariants as by_handle
use Rattle.fs_model.specs.declared.reply.Reply.{Reply}
use Rattle.fs_model.specs.declared.reply.Reply.TheVariants.{Data, Wrote, Target, Shown, Acl, Names, Space, Stamped, Opened, Made, Refused}
use Rattle.fs_model.specs.declared.reply.Stamps.{Stamps}
use Rattle.fs_model.specs.declared.reply.Status.{Status}
use Rattle.fuse_plans.specs.Plans.{Plan, Finish, Ask, followed_by}
use Rattle.fuse_plans.specs.declared.request_error.RequestError.{RequestError}
use Rattle.fuse_plans.specs.declared.request_error.RequestError.TheVariants.{Refuses}
use Rattle.fuse_plans.specs.RequestErrors.{failed, is_for}
use Rattle.fuse_state.specs.Servers.{Server}

-- What was done before an error stays.
abbrev pub Work : Type 0 → Type 0
Work X = Server → Plan (Result X RequestError × Server)

unfoldable pub give : {X : Type 0} → X → Work X
give x s = Finish (Ok x, s)

unfoldable pub fail : {X : Type 0} → RequestError → Work X
fail e s = Finish (Err e, s)

-- what is read of what the server keeps
unfoldable pub kept : {X : Type 0} → (Server → X) → Work X
kept f s = Finish (Ok (f s), s)

-- a change of what it keeps
unfoldable pub keep : (Server → Server) → Work (Unit {0})
keep f s = Finish (Ok tt, f s)

abbrev pub goes_on : {X Y : Type 0} → (X → Work Y) → Result X RequestError × Server → Plan (Result Y RequestError × Server)
goes_on f (Ok x, s) = f x s
goes_on f (Err e, s) = Finish (Err e, s)

infixl 10 ◌>>=◌
unfoldable pub ◌>>=◌ : {X Y : Type 0} → Work X → (X → Work Y) → Work Y
(w >>= f) s = followed_by (w s) (goes_on f)

infixl 10 ◌>>◌
abbrev pub ◌>>◌ : {X Y : Type 0} → Work X → Work Y → Work Y
v >> w = v >>= (λ _. w)

-- the work, and whether it failed
unfoldable pub attempt : {X : Type 0} → Work X → Work (Result X RequestError)
attempt w s = followed_by (w s) (λ r. Finish (Ok r.0, r.1))

abbrev pub of_result : {X : Type 0} → Result X RequestError → Work X
of_result (Ok x) = give x
of_result (Err e) = fail e

-- a value that must be there
abbrev pub needed : {X : Type 0} → RequestError → Option X → Work X
needed e None = fail e
needed e (Some x) = give x

-- ---- events

unfoldable pub ask : Event → Work Reply
ask e s = Ask e (λ reply. Finish (Ok reply, s))

abbrev pub refusal_in : Reply → Option Refusal
refusal_in (Refused r) = Some r
refusal_in _ = None

-- the machine refuses with this error
abbrev pub is_refused_for : Errno → Reply → Bool
is_refused_for e (Refused r) = is_for e (Refuses r)
is_refused_for e _ = false

abbrev pub give_unless : Reply → Option Refusal → Work Reply
give_unless reply None = give reply
give_unless reply (Some r) = fail (Refuses r)

abbrev pub unless_refused : Reply → Work Reply
unless_refused reply = give_unless reply (refusal_in reply)

abbrev pub obtain : Event → Work Reply
obtain e = ask e >>= unless_refused

-- Where the work failed what was opened is closed.
abbrev pub or_closed : {X : Type 0} → ℕ → Result X RequestError → Work X
or_closed handle (Ok x) = give x
or_closed handle (Err e) = ask (CallBy handle by_handle.Close) >> fail e

-- Replies of another form never come.
abbrev pub unexpected : RequestError
unexpected = failed EIO

abbrev pub status_of_reply : Reply → Option Status
status_of_reply (Shown status) = Some status
status_of_reply _ = None

abbrev pub replied_status : Reply → Work Status
replied_status reply = needed unexpected (status_of_reply reply)

-- a stamp is of no process, so a refusal of it is a fault of the machine
abbrev pub stamps_of_reply : Reply → Option Stamps
stamps_of_reply (Stamped stamps) = Some stamps
stamps_of_reply _ = None

abbrev pub replied_stamps : Reply → Work Stamps
replied_stamps reply = needed unexpected (stamps_of_reply reply)

-- the handle of what was opened, and its inode
abbrev pub opened_of_reply : Reply → Option (ℕ × ℕ)
opened_of_reply (Opened handle n) = Some (handle, n)
opened_of_reply _ = None

abbrev pub replied_opened : Reply → Work (ℕ × ℕ)
replied_opened reply = needed unexpected (opened_of_reply reply)

-- the inode of what was made
abbrev pub number_of_reply : Reply → Option ℕ
number_of_reply (Made n) = Some n
number_of_reply _ = None

abbrev pub replied_number : Reply → Work ℕ
replied_number reply = needed unexpected (number_of_reply reply)

-- so many bytes at most
abbrev pub within : ℕ → Option (List ℕ) → Option (List ℕ)
within most None = None
within most (Some bytes) = if nat_le (length bytes) most then Some bytes else None

abbrev pub count_within : ℕ → Option ℕ → Option ℕ
count_within most None = None
count_within most (Some count) = if nat_le count most then Some count else None

abbrev pub data_of_reply : Reply → Option (List ℕ)
data_of_reply (Data bytes) = Some bytes
data_of_reply _ = None

-- at most as many as were asked for
abbrev pub replied_data : ℕ → Reply → Work (List ℕ)
replied_data most reply = needed unexpected (within most (data_of_reply reply))

abbrev pub count_of_reply : Reply → Option ℕ
count_of_reply (Wrote count) = Some count
count_of_reply _ = None

-- at most as many as were given
abbrev pub replied_count : ℕ → Reply → Work ℕ
replied_count most reply = needed unexpected (count_within most (count_of_reply reply))

abbrev pub target_of_reply : Reply → Option (List ℕ)
target_of_reply (Target target) = Some target
target_of_reply _ = None

abbrev pub replied_target : Reply → Work (List ℕ)
replied_target reply = needed unexpected (target_of_reply reply)

abbrev pub acl_of_reply : Reply → Option (Option AccessList)
acl_of_reply (Acl acl) = Some acl
acl_of_reply _ = None

abbrev pub replied_acl : Reply → Work (Option AccessList)
replied_acl reply = needed unexpected (acl_of_reply reply)

abbrev pub names_of_reply : Reply → Option (List (List ℕ × ℕ))
names_of_reply (Names names) = Some names
names_of_reply _ = None

abbrev pub replied_names : Reply → Work (List (List ℕ × ℕ))
replied_names reply = needed unexpected (names_of_reply reply)

abbrev pub space_of_reply : Reply → Option (ℕ × ℕ)
space_of_reply (Space sectors inodes) = Some (sectors, inodes)
space_of_reply _ = None

abbrev pub replied_space : Reply → Work (ℕ × ℕ)
replied_space reply = needed unexpected (space_of_reply reply)
