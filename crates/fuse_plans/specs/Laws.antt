-- The laws of the plans, whatever is replied.
--     handle_in, rights_of        for whom a request is performed, and on what
--     RequestsBehave        no request is performed with more than the rights of who asks, or on anything but what it is about
--     RunsBehave        the same of what was asked
--     RequestsChangeWhatTheySay, RunsChangeWhatRequestsSay        what changes of names and attributes comes of a request that says so
--     OthersChangeNothing, OthersKeepTimes        requests that say no change
--     IsReplyTo, OpeningsAreTold        what the machine replies to a call that opens
--     FailuresChangeNothing        requests that change all or nothing
--     OpenedIsTheObject        what an OPEN has opened is the object of its node
--     ToldNodesLeadToObjects        the node that is told of a name leads to what has it
--     MakingsAreCounted        each number counts how often it was given to a new object
--     WhoAsksCountsOnlyWhereNeeded        where nobody is needed a request is the same whoever asks
--     UsersCountAlone, UsersAreGranted        where a user alone counts it was shown that it is granted what is asked, and it is
--     WasRefused        the server itself was refused
--     JudgedLookupsAreGranted        where the kernel has judged, a look-up is refused in one kind of directory only
use Rattle.std.specs.Prelude.{◌≡◌, ◌≢◌, ℕ, ◌+◌, ◌%◌, ◌^◌, ◌<◌, Bool, true, false, if◌then◌else◌, List, [], ◌∷◌, All, Option, None, Some, is_some, unwrap_or, IsTrue, IsFalse}
use Rattle.std.specs.Ordering.{nat_cmp}
use Rattle.posix_acl.specs.AccessList.{AccessList}
use Rattle.posix_acl.specs.declared.entry.Perms.{Perms}
use Rattle.fs_cred.specs.declared.errno.Errno.{Errno}
use Rattle.fs_cred.specs.declared.errno.Errno.TheVariants.{EACCES}
use Rattle.fs_cred.specs.declared.refusal.Refusal.{Refusal}
use Rattle.fs_cred.specs.Credentials.{Credential}
use Rattle.fs_cred.specs.declared.node.Node.{Node}
use Rattle.fs_cred.specs.declared.rule.Rule.{Rule}
use Rattle.fs_cred.specs.Decisions.{Decides}
use Rattle.fs_layout.specs.Maps.{get, with_entry}
use Rattle.fs_model.specs.declared.call.AclType.TheVariants.{Access as AccessAcl}
use Rattle.fs_model.specs.declared.call.Call.{Call}
use Rattle.fs_model.specs.declared.call.Call.TheVariants.{Open as OpenCall, Lstat, GetAcl, Mkdir, Symlink}
use Rattle.fs_model.specs.declared.call.Flags.{Flags}
use Rattle.fs_model.specs.declared.event.Actor.{Actor}
use Rattle.fs_model.specs.declared.event.Event.{Event}
use Rattle.fs_model.specs.declared.event.Event.TheVariants.{CallAt}
use Rattle.fs_model.specs.declared.reply.Reply.{Reply}
use Rattle.fs_model.specs.declared.reply.Reply.TheVariants.{Shown, Acl, Made, Opened as OpenedBy, Refused}
use Rattle.fs_model.specs.declared.reply.Status.{Status}
use Rattle.fs_model.specs.States.{State}
use Rattle.fs_model.specs.Steps.{Step}
use Rattle.fuse_plans.specs.Plans.{IsRunOf, IsAsked, KeepsTo, MayAskAll}
use Rattle.fuse_plans.specs.declared.request.WhoCounts.TheVariants.{Nobody, User}
use Rattle.fuse_plans.specs.Requests.{Request}
use Rattle.fuse_protocol.specs.declared.flags.OpenFlags.{OpenFlags}
use Rattle.fuse_protocol.specs.declared.flags.OpenedFlags.{OpenedFlags}
use Rattle.fuse_protocol.specs.declared.operation.Operation.{Operation}
use Rattle.fuse_protocol.specs.declared.operation.Operation.TheVariants.{Lookup, SetAttr, SymLink, MkNod, MkDir, Open, Read, Write, Release, Create}
use Rattle.fuse_plans.specs.declared.reply.Attributes.{Attributes}
use Rattle.fuse_plans.specs.declared.reply.ReplyBody.{ReplyBody}
use Rattle.fuse_plans.specs.declared.reply.ReplyBody.TheVariants.{Found, Opened, Created}
use Rattle.fuse_plans.specs.declared.reply.Response.{Response}
use Rattle.fuse_plans.specs.declared.reply.Response.TheVariants.{Says, Fails}
use Rattle.fuse_state.specs.Servers.{Server, number_of_node, times_of, WithinShares}
use Rattle.fuse_plans.specs.Acts.{Subject, StartsAt}
use Rattle.fuse_plans.specs.Conduct.{Rights, conduct}
use Rattle.fuse_plans.specs.Alterations.{Alteration, IsToldIn, says_change_in, changes_at_once, alterations_in, MayBeAsked, AsksOnly}
use Rattle.fuse_plans.specs.Works.{refusal_in}
use Rattle.fuse_plans.specs.Callers.{server_credential, actor_in}
use Rattle.fuse_plans.specs.declared.request_error.RequestError.{RequestError}
use Rattle.fuse_plans.specs.declared.request_error.RequestError.TheVariants.{Refuses}
use Rattle.fuse_plans.specs.RequestErrors.{is_for}
use Rattle.fuse_plans.specs.Masks.{may_hide, hides}
use Rattle.fuse_plans.specs.Nobody.{asks_alone, grants_user, who_counts_in}
use Rattle.fuse_plans.specs.Serving.{answered_as, request_plan}

-- the handle of an open file by which something is asked
abbrev pub handle_of_operation : Operation → Option ℕ
handle_of_operation (SetAttr changes) = changes.handle
handle_of_operation (Read extent) = Some extent.handle
handle_of_operation (Write handle offset bytes) = Some handle
handle_of_operation (Release handle) = Some handle
handle_of_operation _ = None

abbrev pub handle_in : Option Operation → Option ℕ
handle_in None = None
handle_in (Some operation) = handle_of_operation operation

abbrev pub subject_of : Request → Server → Subject
subject_of r s = record { node = r.node; operation = r.operation; start = s }

abbrev pub rights_of : Request → Server → Rights
rights_of r s = record { cred = r.cred; handle = handle_in r.operation; subject = subject_of r s }

-- No user holds more than it may, where that was so before.
abbrev pub Ends : {M : Type 0} → Server → M → Response × Server → Type 0
Ends s m r = WithinShares s → WithinShares r.1

-- Who calls, and on what.
abbrev pub RequestsBehave : Type 0
RequestsBehave = (r : Request) (s : Server) → KeepsTo (conduct (rights_of r s)) (Ends s) [] (request_plan r s)

-- What was asked of a machine for a request, with its replies, was allowed, and ends so.
abbrev pub RunsBehave : Type 0
RunsBehave =
    (r : Request) (s : Server) (es : List Event) (replies : List Reply) (result : Response × Server) → IsRunOf (request_plan r s) es replies result
    → MayAskAll (conduct (rights_of r s)) [] es replies × (WithinShares s → WithinShares result.1)

-- ---- what changes

-- Each request, the first too.
abbrev pub RequestsChangeWhatTheySay : Type 0
RequestsChangeWhatTheySay = (r : Request) (s : Server) → AsksOnly (MayBeAsked r.operation) (request_plan r s)

-- All that was asked of a machine is what the request says.
abbrev pub RunsChangeWhatRequestsSay : Type 0
RunsChangeWhatRequestsSay =
    (r : Request) (s : Server) (es : List Event) (replies : List Reply) (result : Response × Server)
    → IsRunOf (request_plan r s) es replies result → All (MayBeAsked r.operation) es

-- All others change nothing of the machine's,
abbrev pub OthersChangeNothing : Type 0
OthersChangeNothing =
    (operation : Option Operation) (alteration : Alteration) → IsFalse (says_change_in operation) → IsToldIn operation alteration → ⊥

-- and no times, which the server keeps.
abbrev pub OthersKeepTimes : Type 0
OthersKeepTimes =
    (r : Request) (s t : Server) (response : Response) (es : List Event) (replies : List Reply)
    → IsFalse (says_change_in r.operation) → IsRunOf (request_plan r s) es replies (response, t)
    → (n : ℕ) → times_of t n ≡ times_of s n

-- To a call that opens something the machine replies with what it has opened, or refuses it.
abbrev pub IsReplyTo : Event → Reply → Type 0
IsReplyTo (CallAt actor (OpenCall path flags mode)) (OpenedBy handle n) = Unit {0}
IsReplyTo (CallAt actor (OpenCall path flags mode)) (Refused refusal) = Unit {0}
IsReplyTo (CallAt actor (OpenCall path flags mode)) reply = ⊥
IsReplyTo e reply = Unit {0}

-- So it does, by each step.
abbrev pub OpeningsAreTold : Type 0
OpeningsAreTold = (old new : State) (e : Event) (reply : Reply) → Step old e reply new → IsReplyTo e reply

-- Where one call changes all, and the request fails, that call was refused, each time that it was made.
abbrev pub FailuresChangeNothing : Type 0
FailuresChangeNothing =
    (r : Request) (s t : Server) (operation : Operation) (e : RequestError) (es : List Event) (replies : List Reply)
    (asked : Event) (reply : Reply) (after : List Event) → r.operation ≡ Some operation → IsTrue (changes_at_once operation)
    → IsRunOf (request_plan r s) es replies (Fails e, t) → IsAsked asked reply after es replies → IsReplyTo asked reply → alterations_in asked ≢ []
    → IsTrue (is_some (refusal_in reply))

-- ---- what is opened

-- The handle is one that the machine gave where the object of the request's node was opened.
pub record OpenedObject (r : Request) (s : Server) (es : List Event) (replies : List Reply) (handle : ℕ) : Type 0 where
  pub number : ℕ
  pub of_node : number_of_node s r.node ≡ Some number
  pub opener : Actor
  pub starts : StartsAt opener number
  pub flags : Flags
  pub told : ℕ
  pub opened : IsAsked (CallAt opener (OpenCall [] flags 0)) (OpenedBy handle told) [] es replies

-- Whatever was replied: where an OPEN ends well, its handle is of the object of its node, and nothing was asked then.
abbrev pub OpenedIsTheObject : Type 0
OpenedIsTheObject =
    (r : Request) (s t : Server) (flags : OpenFlags) (es : List Event) (replies : List Reply) (handle : ℕ) (told : OpenedFlags) → r.operation ≡ Some (Open flags)
    → IsRunOf (request_plan r s) es replies (Says (Opened handle told), t) → OpenedObject r s es replies handle

-- ---- what is found or made

-- a name is looked up, or what is made gets it
abbrev pub names_an_object : Operation → Bool
names_an_object (Lookup name) = true
names_an_object (SymLink name target) = true
names_an_object (MkNod name mode umask) = true
names_an_object (MkDir name mode umask) = true
names_an_object (Create name flags mode umask) = true
names_an_object _ = false

-- the node and the attributes that are told of what has the name
abbrev pub told_entry : ReplyBody → Option (ℕ × Attributes)
told_entry (Found node name_valid shown) = Some (node, shown)
told_entry (Created node name_valid shown handle flags) = Some (node, shown)
told_entry _ = None

-- Whatever was replied, and whatever was answered before.
abbrev pub ToldNodesLeadToObjects : Type 0
ToldNodesLeadToObjects =
    (r : Request) (s t : Server) (operation : Operation) (body : ReplyBody) (es : List Event) (replies : List Reply) (node : ℕ) (shown : Attributes)
    → r.operation ≡ Some operation → IsTrue (names_an_object operation) → shown.status.ino < 2 ^ 32 → told_entry body ≡ Some (node, shown)
    → IsRunOf (request_plan r s) es replies (Says body, t) → number_of_node t node ≡ Some shown.status.ino

-- the number of what a call makes, where it is told
abbrev pub made_by : Call → Reply → Option ℕ
made_by (Mkdir path mode) (Made n) = Some n
made_by (Symlink target path) (Made n) = Some n
made_by (OpenCall path flags mode) (OpenedBy handle n) = if flags.create then Some n else None
made_by call reply = None

abbrev pub made_by_event : Event → Reply → Option ℕ
made_by_event (CallAt actor call) reply = made_by call reply
made_by_event event reply = None

abbrev pub counted_once : Option ℕ → List (ℕ × ℕ) → List (ℕ × ℕ)
counted_once None generations = generations
counted_once (Some n) generations = with_entry nat_cmp generations n ((unwrap_or (get nat_cmp generations n) 0 + 1) % 2 ^ 32)

-- what is made counts once more for its number
abbrev pub makings_counted : List Event → List Reply → List (ℕ × ℕ) → List (ℕ × ℕ)
makings_counted (e ∷ es) (reply ∷ replies) generations = makings_counted es replies (counted_once (made_by_event e reply) generations)
makings_counted _ _ generations = generations

-- Whatever was replied, and whether or not the request fails.
abbrev pub MakingsAreCounted : Type 0
MakingsAreCounted =
    (r : Request) (s t : Server) (response : Response) (es : List Event) (replies : List Reply) → IsRunOf (request_plan r s) es replies (response, t)
    → t.generations ≡ makings_counted es replies s.generations

-- ---- who asks

-- Whatever was replied: where it was found that who asks doesn't count, the rest is the same for any credential, and for none.
abbrev pub WhoAsksCountsOnlyWhereNeeded : Type 0
WhoAsksCountsOnlyWhereNeeded =
    (r : Request) (s : Server) (cred : Option Credential) (es : List Event) (replies : List Reply) → IsRunOf (who_counts_in r.node r.uid r.operation s) es replies Nobody
    → answered_as true (record r { cred = cred }) s ≡ answered_as true r s

-- ---- what a user is granted with any groups

-- The server was shown an object, and its list, by which the user is granted what the operation asks of it alone.
pub record IsShownGranted (r : Request) (s : Server) (es : List Event) (replies : List Reply) : Type 0 where
  pub operation : Operation
  pub is_operation : r.operation ≡ Some operation
  pub want : Perms
  pub asks : asks_alone operation ≡ Some want
  pub number : ℕ
  pub of_node : number_of_node s r.node ≡ Some number
  pub status : Status
  pub after : List Event
  pub shown : IsAsked (CallAt (actor_in server_credential number) (Lstat [])) (Shown status) after es replies
  pub acl : AccessList
  pub acl_after : List Event
  pub listed : IsAsked (CallAt (actor_in server_credential number) (GetAcl [] AccessAcl)) (Acl (Some acl)) acl_after es replies
  pub grants : IsTrue (grants_user status.owner r.uid acl want)

-- Whatever was replied: where groups and capabilities aren't asked for, it was shown that they don't count.
abbrev pub UsersCountAlone : Type 0
UsersCountAlone =
    (r : Request) (s : Server) (es : List Event) (replies : List Reply) → IsRunOf (who_counts_in r.node r.uid r.operation s) es replies User
    → IsShownGranted r s es replies

-- By the access check, with any group, any groups and any capabilities.
abbrev pub UsersAreGranted : Type 0
UsersAreGranted =
    (cred : Credential) (node : Node) (want : Perms) (granted : Bool) (rule : Rule) → IsTrue (grants_user node.owner cred.uid node.acl want)
    → Decides cred node want granted rule → IsTrue granted

-- ---- look-ups that the kernel has judged

-- what the server itself asks
abbrev pub IsByServer : Event → Type 0
IsByServer (CallAt actor call) = actor.cred ≡ server_credential
IsByServer _ = ⊥

-- the server was refused so
pub record WasRefused (errno : Errno) (es : List Event) (replies : List Reply) : Type 0 where
  pub event : Event
  pub is_by : IsByServer event
  pub refusal : Refusal
  pub after : List Event
  pub asked : IsAsked event (Refused refusal) after es replies
  pub for_it : IsTrue (is_for errno (Refuses refusal))

-- Why a look-up is refused all the same: the server was shown a directory whose access list has the mask `---` while others may search,
-- or the machine refused the server itself.
pub data MayBeRefused (es : List Event) (replies : List Reply) : Type 0 where
  is_masked : (n : ℕ) (status : Status) (acl : AccessList) (after acl_after : List Event)
      → IsAsked (CallAt (actor_in server_credential n) (Lstat [])) (Shown status) after es replies → IsTrue (may_hide status.mode)
      → IsAsked (CallAt (actor_in server_credential n) (GetAcl [] AccessAcl)) (Acl (Some acl)) acl_after es replies → IsTrue (hides (Some acl))
      → MayBeRefused es replies
  server_refused : WasRefused EACCES es replies → MayBeRefused es replies

-- Whatever was replied: where the kernel judges before it asks, no look-up is answered EACCES for who asks, but in such a directory.
abbrev pub JudgedLookupsAreGranted : Type 0
JudgedLookupsAreGranted =
    (r : Request) (s t : Server) (name : List ℕ) (es : List Event) (replies : List Reply) (e : RequestError) → r.operation ≡ Some (Lookup name)
    → IsTrue s.settings.posix_acl → IsTrue (is_for EACCES e) → IsRunOf (request_plan r s) es replies (Fails e, t)
    → MayBeRefused es replies
