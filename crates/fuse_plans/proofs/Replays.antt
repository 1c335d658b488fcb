-- Whole requests, run: with the replies that are given, or on the abstract machine.
--     replayed, played        one plan with given replies, and requests: what is asked, and what the kernel hears
--     carried, carried_out        the same on the machine
--     heard_from        what the kernel hears of requests, from a state on
--     counted_from        who counts of those who ask
--     init, root, user, shown, ..        words for requests, events, replies and answers
--     AreHeardFrom, AreHeard, ArePlayed, AreWritten        worked rows: each request beside what the kernel hears of it
--     EachIs        and anything else beside what it is
use Rattle.std.specs.Prelude.{◌≡◌, ℕ, ◌+◌, ◌*◌, ◌^◌, Bool, true, false, List, [], ◌∷◌, ◌++◌, map, Result, Ok, Err, Option, None, Some}
use Rattle.std.specs.Hash.DefaultHasher.{initial, round, write_word, write_byte, write, finish}
use Rattle.std.specs.List.{flat_map}
use Rattle.posix_acl.specs.declared.entry.Perms.{Perms}
use Rattle.posix_acl.specs.AccessList.{AccessList}
use Rattle.fs_cred.specs.declared.errno.Errno.{Errno}
use Rattle.fs_cred.specs.declared.refusal.Refusal.TheVariants.{Failed}
use Rattle.fs_cred.specs.declared.rule.Rule.TheVariants.{Other}
use Rattle.fs_cred.specs.Capabilities.{all_caps}
use Rattle.fs_cred.specs.Credentials.{usual_credential}
use Rattle.fs_cred.specs.Verdicts.{verdict}
use Rattle.fs_model.specs.declared.call.Call.{Call}
use Rattle.fs_model.specs.declared.event.Event.{Event}
use Rattle.fs_model.specs.declared.event.Event.TheVariants.{CallAt}
use Rattle.fs_model.specs.declared.reply.FileType.{FileType}
use Rattle.fs_model.specs.declared.reply.Reply.{Reply}
use Rattle.fs_model.specs.declared.reply.Reply.TheVariants.{Granted, Stamped, Refused}
use Rattle.fs_model.specs.declared.reply.Status.{Status}
use Rattle.fs_model.specs.States.{State}
use Rattle.fs_model.specs.Trails.{trail_of}
use Rattle.fs_model.specs.Walks.{first_refusal, found_of}
use Rattle.fs_model.specs.Rows.{row_of}
use Rattle.fs_model.specs.HandleCalls.{handle_call_row}
use Rattle.fs_model.specs.Steps.{firm_refusal, other_refusal, after}
use Rattle.fs_model.proofs.Machine.{fresh, went}
use Rattle.fuse_protocol.specs.declared.flags.OpenFlags.{OpenFlags}
use Rattle.fuse_protocol.specs.declared.flags.OpenedFlags.{OpenedFlags}
use Rattle.fuse_protocol.specs.declared.entry.DirectoryEntry.{DirectoryEntry}
use Rattle.fuse_protocol.specs.declared.operation.AttrChanges.{AttrChanges}
use Rattle.fuse_protocol.specs.declared.operation.Extent.{Extent}
use Rattle.fuse_protocol.specs.declared.operation.NewTime.{NewTime}
use Rattle.fuse_protocol.specs.declared.operation.Operation.{Operation}
use Rattle.fuse_protocol.specs.declared.operation.Operation.TheVariants.{Init, Open, SetAttr}
use Rattle.fuse_protocol.specs.declared.reply.Time.{Time}
use Rattle.fuse_protocol.specs.declared.request.Request.{Request as WireRequest}
use Rattle.fuse_protocol.specs.declared.request.RequestFault.{RequestFault}
use Rattle.fuse_protocol.specs.declared.request.RequestFault.TheVariants as faults
use Rattle.fuse_protocol.specs.Bytes.{short_at, word_at, long_at, bytes_of_u16s, bytes_of_u32s, bytes_of_u64s}
use Rattle.fuse_protocol.specs.Names.{text_of, name_from}
use Rattle.fuse_protocol.specs.Operations.{attr_changes, operation_of, object_operation, handle_operation, other_operation}
use Rattle.fuse_protocol.specs.Requests.{request_of}
use Rattle.fuse_protocol.specs.Replies.{reply_bytes}
use Rattle.fuse_protocol.specs.Entries.{directory_entry_bytes, directory_record_bytes}
use Rattle.fuse_protocol.specs.AclValues.{acl_value_bytes}
use Rattle.fuse_state.specs.Keepings.{nothing_kept}
use Rattle.fuse_state.specs.Servers.{Server, new_server}
use Rattle.fuse_plans.specs.declared.reply.Attributes.{Attributes}
use Rattle.fuse_plans.specs.declared.reply.ReplyBody.{ReplyBody}
use Rattle.fuse_plans.specs.declared.reply.ReplyBody.TheVariants.{Nothing, Found, Shown, Opened, Created, Bytes}
use Rattle.fuse_plans.specs.declared.reply.Response.{Response}
use Rattle.fuse_plans.specs.declared.reply.Response.TheVariants.{Silence, Says, Fails}
use Rattle.fuse_plans.specs.declared.request.WhoCounts.{WhoCounts}
use Rattle.fuse_plans.specs.Plans.{Plan, Finish, Ask}
use Rattle.fuse_plans.specs.Protocol.{request_from, malformed, response_bytes}
use Rattle.fuse_plans.specs.RequestErrors.{error_number}
use Rattle.fuse_plans.specs.Requests.{Outside, credential_for, Request}
use Rattle.fuse_plans.specs.Works.{give, fail, kept, keep, ◌>>=◌, attempt, ask}
use Rattle.fuse_plans.specs.Callers.{actor_in, inside, look_inside, on, look, the_number}
use Rattle.fuse_plans.specs.NamePlans.{new_valid, tell_made}
use Rattle.fuse_plans.specs.RemovedPlans.{look_before, last_shown}
use Rattle.fuse_plans.specs.AclPlans.{acl_at}
use Rattle.fuse_plans.specs.FilePlans.{open_or_make, look_open, tell_created, write_piece, write_pieces, write_runs, touch_open}
use Rattle.fuse_plans.specs.AttributePlans.{set_stamps}
use Rattle.fuse_plans.specs.DirectoryPlans.{take_directory, entry_kind, tell_names, list_all, list_kept, read_directory, close_directory, sync_all}
use Rattle.fuse_plans.specs.ListingOrder.{listing_place}
use Rattle.fuse_plans.specs.ListingPlans.{look_up_names, read_directory_plus}
use Rattle.fuse_plans.specs.Masks.{is_masked}
use Rattle.fuse_plans.specs.Nobody.{is_granted, who_counts_in}
use Rattle.fuse_plans.specs.Times.{tell_time, told_stamps}
use Rattle.fuse_plans.specs.Serving.{terms, begin, count_space, end, request_plan}

-- ---- with given replies

-- what is asked, and the result, if the plan is done with just these replies
abbrev pub replayed : {X : Type 0} → Plan X → List Reply → List Event × Option X
replayed (Finish x) [] = ([], Some x)
replayed (Finish x) (reply ∷ replies) = ([], None)
replayed (Ask e next) [] = (e ∷ [], None)
replayed (Ask e next) (reply ∷ replies) =
    let rest = replayed (next reply) replies in
    (e ∷ rest.0, rest.1)

-- an answer, with the number of an error
pub data Heard : Type 0 where
  Silent : Heard
  Told : ReplyBody → Heard
  Error : ℕ → Heard
  Undone : Heard

abbrev as_heard : Response → Heard
as_heard Silence = Silent
as_heard (Says body) = Told body
as_heard (Fails e) = Error (error_number e)

abbrev heard_of : Option (Response × Server) → Heard
heard_of None = Undone
heard_of (Some r) = as_heard r.0

abbrev left_of : Server → Option (Response × Server) → Server
left_of s None = s
left_of s (Some r) = r.1

-- requests, each with the replies to what is asked for it
abbrev pub played : Server → List (Request × List Reply) → List (List Event × Heard)
played s [] = []
played s (step ∷ steps) =
    let done = replayed (request_plan step.0 s) step.1 in
    (done.0, heard_of done.1) ∷ played (left_of s done.1) steps

-- ---- on the machine

-- the result, and the state then
abbrev pub carried : {X : Type 0} → Plan X → State → X × State
carried (Finish x) m = (x, m)
carried (Ask e next) m =
    let step = went m e (firm_refusal m e) (other_refusal m e) in
    carried (next step.0) step.1

-- what the kernel hears of requests, one after another
abbrev pub heard_from : Server → State → List Request → List Heard
heard_from s m [] = []
heard_from s m (r ∷ rs) =
    let done = carried (request_plan r s) m in
    as_heard done.0.0 ∷ heard_from done.0.1 done.1 rs

-- what the server and the machine are after them
abbrev pub after_requests : Server → State → List Request → Server × State
after_requests s m [] = (s, m)
after_requests s m (r ∷ rs) =
    let done = carried (request_plan r s) m in
    after_requests done.0.1 done.1 rs

-- who counts for a request after others
abbrev pub counted_from : Server → State → List Request → Request → WhoCounts
counted_from s m rs r =
    let left = after_requests s m rs in
    (carried (who_counts_in r.node r.uid r.operation left.0) left.1).0

-- all that a plan computes with
unfoldable pub all_plans : Unit {0}
unfolding give fail kept keep ◌>>=◌ attempt ask inside look_inside on look the_number new_valid tell_made look_before last_shown acl_at open_or_make look_open tell_created write_piece write_pieces write_runs touch_open set_stamps take_directory tell_names list_all list_kept read_directory close_directory sync_all look_up_names read_directory_plus is_masked is_granted tell_time told_stamps begin count_space end request_plan
all_plans = tt

-- and all that the machine does
unfoldable pub all_runs : Unit {0}
unfolding all_plans verdict trail_of first_refusal found_of row_of handle_call_row firm_refusal other_refusal after
all_runs = tt

-- and the places of names in listings
unfoldable pub all_listings : Unit {0}
unfolding all_runs listing_place initial round write_word write_byte write finish
all_listings = tt

-- ---- words

abbrev pub second : ℕ → Time
second k = record { seconds = k; nanoseconds = 0 }

abbrev pub new_where : Bool → Server
new_where keeps_times = new_server (record { max_write = 4096; posix_acl = false; keeping = nothing_kept; sectors = 878; inodes = 63; max_name = 120; keeps_times = keeps_times; commit = 0; start = second 1000000001 })

-- that of a disk which was just made, `fresh`
abbrev pub new : Server
new = new_where false

-- one that keeps times
abbrev pub timekeeping : Server
timekeeping = new_where true

-- a disk that was just made, and keeps times
abbrev pub keeping : State
keeping = record fresh { room = record fresh.room { keeps_times = true } }

abbrev pub outside : Option (List ℕ) → ℕ → Outside
outside groups now = record { groups = groups; caps = all_caps; now = second now; memory = true }

-- of a node, by a user with a group and more groups, and when
abbrev pub asks : ℕ → ℕ → ℕ → Option (List ℕ) → ℕ → Operation → Request
asks node uid gid groups now operation = record {
  unique = 0;
  node = node;
  uid = uid;
  cred = credential_for uid gid (outside groups now);
  now = second now;
  operation = Some operation;
  value = None;
  memory = true;
}

-- where a value says an ACL
abbrev pub asks_with : Option AccessList → ℕ → ℕ → ℕ → Option (List ℕ) → ℕ → Operation → Request
asks_with acl node uid gid groups now operation = record (asks node uid gid groups now operation) { value = Some acl }

-- the kernel itself, with no groups that are known
abbrev pub kernel : ℕ → ℕ → Operation → Request
kernel of now operation = asks of 0 0 None now operation

abbrev pub root : ℕ → ℕ → Operation → Request
root of now operation = asks of 0 0 (Some []) now operation

-- user 1000 of group 100
abbrev pub user : ℕ → ℕ → Operation → Request
user of now operation = asks of 1000 100 (Some []) now operation

-- and user 1001 of group 101
abbrev pub another : ℕ → ℕ → Operation → Request
another of now operation = asks of 1001 101 (Some []) now operation

abbrev pub init : Operation
init = Init (record { major = 7; minor = 45; max_readahead = 131072; flags = record { 0 = 1946157051 } })

abbrev pub no_changes : AttrChanges
no_changes = record { mode = None; uid = None; gid = None; size = None; atime = None; mtime = None; handle = None }

abbrev pub set_mode : ℕ → Operation
set_mode mode = SetAttr (record no_changes { mode = Some mode })

abbrev pub set_owner : ℕ → Operation
set_owner uid = SetAttr (record no_changes { uid = Some uid })

abbrev pub set_times : Option NewTime → Option NewTime → Operation
set_times atime mtime = SetAttr (record no_changes { atime = atime; mtime = mtime })

-- of an object, and by a handle
abbrev pub set_size : ℕ → Operation
set_size size = SetAttr (record no_changes { size = Some size })

abbrev pub set_size_by : ℕ → ℕ → Operation
set_size_by handle size = SetAttr (record no_changes { size = Some size; handle = Some handle })

-- of an OPEN and a CREATE
abbrev pub flags : ℕ → OpenFlags
flags bits = record { 0 = bits }

-- to open for reading alone, and for writing alone
abbrev pub reading : Operation
reading = Open (flags 0)

abbrev pub writing : Operation
writing = Open (flags 1)

-- a call by someone in a directory, or on an object
abbrev pub at : ℕ → ℕ → ℕ → Call → Event
at uid gid start call = CallAt (actor_in (usual_credential uid gid []) start) call

abbrev pub extent : ℕ → ℕ → ℕ → Extent
extent handle offset size = record { handle = handle; offset = offset; size = size }

abbrev pub failed : Errno → Reply
failed e = Refused (Failed e)

abbrev pub granted : Reply
granted = Granted Other

abbrev pub status : ℕ → FileType → ℕ → ℕ → ℕ → ℕ → ℕ → Status
status ino kind mode links owner group size =
    record { ino = ino; kind = kind; mode = mode; links = links; owner = owner; group = group; size = size }

abbrev pub stamped : ℕ → ℕ → ℕ → Reply
stamped atime mtime ctime = Stamped (record { atime = atime; mtime = mtime; ctime = ctime })

abbrev pub attributes : Status → Time → Time → Time → Attributes
attributes shown atime mtime ctime = record { status = shown; times = record { atime = atime; mtime = mtime; ctime = ctime }; valid = 0 }

-- of what is open
abbrev pub none_kept : OpenedFlags
none_kept = record { 0 = 0 }

-- what the kernel hears: it is shown, or found, or made, with these times, or all with one; it is opened; or it is done
abbrev pub shown : Status → ℕ → ℕ → ℕ → Heard
shown status atime mtime ctime = Told (Shown (attributes status (second atime) (second mtime) (second ctime)))

abbrev pub found : ℕ → Status → ℕ → ℕ → ℕ → Heard
found node status atime mtime ctime = Told (Found node 0 (attributes status (second atime) (second mtime) (second ctime)))

abbrev pub made : ℕ → Status → ℕ → Heard
made node status time = found node status time time time

abbrev pub created_at : ℕ → Status → ℕ → ℕ → ℕ → ℕ → Heard
created_at node status atime mtime ctime handle =
    Told (Created node 0 (attributes status (second atime) (second mtime) (second ctime)) handle none_kept)

abbrev pub created : ℕ → Status → ℕ → ℕ → Heard
created node status time handle = created_at node status time time time handle

abbrev pub opened : ℕ → Heard
opened handle = Told (Opened handle none_kept)

abbrev pub done : Heard
done = Told Nothing

-- what the first request is answered
abbrev pub begun : Heard
begun = Told (terms 131072 524360 4096 0)

-- the node of the object that was the k-th to get a number
abbrev pub node : ℕ → ℕ → ℕ
node k n = 2 ^ 32 * k + n

abbrev pub entry : List ℕ → ℕ → ℕ → DirectoryEntry
entry name ino next = record { ino = ino; next = next; kind = entry_kind name; name = name }

abbrev pub entries : List DirectoryEntry → ReplyBody
entries es = Bytes (flat_map directory_entry_bytes es)

abbrev pub acl : Perms → List (ℕ × Perms) → Perms → List (ℕ × Perms) → Option Perms → Perms → AccessList
acl owner users group groups mask other =
    record { owner = owner; users = users; group = group; groups = groups; mask = mask; other = other }

-- ---- rows

-- a request, and what the kernel hears of it
infix 68 ◌hears◌
abbrev pub ◌hears◌ : {X Y : Type 0} → X → Y → X × Y
x hears y = (x, y)

abbrev pub AreHeardFrom : Server → State → List (Request × Heard) → Type 0
AreHeardFrom s m rows = heard_from s m (map (λ row. row.0) rows) ≡ map (λ row. row.1) rows

-- from the first request on
abbrev pub AreHeard : List (Request × Heard) → Type 0
AreHeard rows = AreHeardFrom new fresh rows

-- an event that is asked for, and the reply to it
infix 70 ◌gets◌
abbrev pub ◌gets◌ : Event → Reply → Event × Reply
e gets reply = (e, reply)

-- a request, and what is asked for it: all, the first, and one more
infixl 69 ◌through◌
abbrev pub ◌through◌ : Request → List (Event × Reply) → Request × List (Event × Reply)
r through steps = (r, steps)

infixl 69 ◌first◌
abbrev pub ◌first◌ : Request → Event × Reply → Request × List (Event × Reply)
r first step = (r, step ∷ [])

infixl 69 ◌then◌
abbrev pub ◌then◌ : Request × List (Event × Reply) → Event × Reply → Request × List (Event × Reply)
asked then step = (asked.0, asked.1 ++ step ∷ [])

abbrev pub ArePlayed : Server → List ((Request × List (Event × Reply)) × Heard) → Type 0
ArePlayed s rows =
    played s (map (λ row. (row.0.0, map (λ step. step.1) row.0.1)) rows) ≡ map (λ row. (map (λ step. step.0) row.0.1, row.1)) rows

-- what is computed, and what it is
infix 68 ◌is◌
abbrev pub ◌is◌ : {X : Type 0} → X → X → X × X
x is y = (x, y)

abbrev pub EachIs : {X : Type 0} → List (X × X) → Type 0
EachIs rows = map (λ row. row.0) rows ≡ map (λ row. row.1) rows

-- ---- with the protocol's bytes

-- the request of these bytes, with the ACL that its value says
abbrev spoken : Outside → Option (Option AccessList) → Result WireRequest RequestFault → Request
spoken outside acl (Ok r) = request_from outside acl r
spoken outside acl (Err (faults.Malformed unique)) = malformed outside unique
spoken outside acl (Err faults.NotWhole) = malformed outside 0

-- the bytes of each reply
abbrev pub written_from : Server → State → List (List ℕ × Outside × Option (Option AccessList)) → List (List ℕ)
written_from s m [] = []
written_from s m (step ∷ steps) =
    let request = spoken step.1 step.2 (request_of step.0) in
    let done = carried (request_plan request s) m in
    response_bytes request.unique done.0.0 ∷ written_from done.0.1 done.1 steps

abbrev pub AreWritten : Server → State → List ((List ℕ × Outside × Option (Option AccessList)) × List ℕ) → Type 0
AreWritten s m rows = written_from s m (map (λ row. row.0) rows) ≡ map (λ row. row.1) rows

-- all that bytes compute with
unfoldable pub all_bytes : Unit {0}
unfolding all_listings request_of operation_of object_operation handle_operation other_operation attr_changes text_of name_from short_at word_at long_at bytes_of_u16s bytes_of_u32s bytes_of_u64s reply_bytes directory_entry_bytes directory_record_bytes acl_value_bytes
all_bytes = tt
