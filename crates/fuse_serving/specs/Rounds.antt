-- Requests that are served, one after another.
--     Round        a request with its answer
--     IsFoundSo        what is due is done, and who counts is found
--     IsAnsweredSo        its plan is performed: these two parts, and the answer
--     IsRound        how one is served
--     Rounds        several
--     IsEnd        why no more are
--     ServedAll        all of a session, and what its requests come to
--     IsBreak        how a round breaks off with a fault
--     BrokenOff        all of a session that broke off, and what its requests come to
use Rattle.std.specs.Prelude.{◌≡◌, ℕ, ◌-◌, ◌^◌, Bool, true, false, List, [], ◌∷◌, ◌++◌, map, length, ◌⊎◌, Option, None, Some, Result, Ok, Err, if◌then◌else◌}
use Rattle.std.specs.List.{flat_map}
use Rattle.fs_cred.specs.Capabilities.{no_caps}
use Rattle.fs_cred.specs.Credentials.{Credential}
use Rattle.fs_model.specs.declared.event.Event.{Event}
use Rattle.fs_model.specs.declared.reply.Reply.{Reply}
use Rattle.fuse_protocol.specs.declared.request.Request.{Request as WireRequest}
use Rattle.fuse_protocol.specs.declared.request.RequestFault.{RequestFault}
use Rattle.fuse_protocol.specs.declared.request.RequestFault.TheVariants.{NotWhole}
use Rattle.fuse_protocol.specs.Requests.{request_of}
use Rattle.fuse_state.specs.Servers.{Server}
use Rattle.fuse_plans.specs.declared.reply.Response.{Response}
use Rattle.fuse_plans.specs.declared.reply.Response.TheVariants.{Silence, Says, Fails}
use Rattle.fuse_plans.specs.Plans.{CarriesOut}
use Rattle.fuse_plans.specs.Requests.{Outside, Request}
use Rattle.fuse_plans.specs.Protocol.{Hears, HearsAll, response_bytes}
use Rattle.fuse_plans.specs.declared.request.WhoCounts.{WhoCounts}
use Rattle.fuse_plans.specs.declared.request.WhoCounts.TheVariants.{User, Process}
use Rattle.fuse_plans.specs.Nobody.{who_counts_in, is_nobody}
use Rattle.fuse_plans.specs.Serving.{answered_as, keep_due_in, requests_plan}
use Rattle.fuse_serving.specs.declared.caller.Caller.{Caller}
use Rattle.fuse_serving.specs.declared.fault.ServeFault.{ServeFault}
use Rattle.fuse_serving.specs.declared.fault.ServeFault.TheVariants as faults
use Rattle.fuse_serving.specs.Exchanges.{Exchange, Reads, ReadsEnd, Writes, Learns, SeesTime, Passes}

-- what was read, and what was known beside it; the request that it says, who was found to count, and its answer; and
-- whether the reply was taken
pub record Round : Type 0 where
  pub bytes : List ℕ
  pub outside : Outside
  pub request : Request
  pub who : WhoCounts
  pub response : Response
  pub taken : Bool

-- the machine that is asked, what the server keeps, and the kernel
pub record Parties (M K : Type 0) : Type 0 where
  pub machine : M
  pub server : Server
  pub kernel : K

-- ---- one request

abbrev pub caller_in : Outside → Caller
caller_in outside = record { groups = outside.groups; caps = outside.caps }

-- Only where the process counts it is asked about.
abbrev pub asks_for : WhoCounts → WireRequest → Caller → List Exchange
asks_for Process spoken caller = Learns spoken.pid spoken.uid spoken.gid caller ∷ []
asks_for _ spoken caller = []

-- of a user alone there are no groups and no capabilities
abbrev pub IsKnownAs : WhoCounts → Caller → Type 0
IsKnownAs User caller = (caller.groups ≡ Some []) × (caller.caps ≡ no_caps)
IsKnownAs _ caller = Unit {0}

-- Where the body is of its form.
abbrev pub learns : WhoCounts → Result WireRequest RequestFault → Outside → List Exchange
learns who (Ok spoken) outside = SeesTime outside.now ∷ asks_for who spoken (caller_in outside)
learns who (Err e) outside = []

abbrev pub has_reply : Response → Bool
has_reply Silence = false
has_reply (Says body) = true
has_reply (Fails e) = true

abbrev pub tells : ℕ → Response → Bool → List Exchange
tells unique Silence taken = []
tells unique (Says body) taken = Writes (response_bytes unique (Says body)) taken ∷ []
tells unique (Fails e) taken = Writes (response_bytes unique (Fails e)) taken ∷ []

-- behind the read
abbrev pub later_exchanges : Round → List Exchange
later_exchanges r = learns r.who (request_of r.bytes) r.outside ++ tells r.request.unique r.response r.taken

abbrev pub exchanges : Round → List Exchange
exchanges r = Reads r.bytes ∷ later_exchanges r

-- where the user alone counts, a request is performed with its user's credential without groups and capabilities
abbrev pub IsOfUser : WhoCounts → Option Credential → Type 0
IsOfUser User (Some cred) = (cred.groups ≡ []) × (cred.caps ≡ no_caps)
IsOfUser User None = ⊥
IsOfUser _ cred = Unit {0}

-- First all is made to last, where that is due; and then it is found who counts, which changes nothing that the server keeps.
pub record IsFoundSo {M : Type 0} (Serves : M → Event → Reply → M → Type 0) (request : Request) (who : WhoCounts) (before kept : Server)
    (old new : M) : Type 0 where
  pub mid : M
  pub keeps : CarriesOut Serves (keep_due_in request.operation request.now before) old mid (Ok tt, kept)
  pub finds : CarriesOut Serves (who_counts_in request.node request.uid request.operation kept) mid new who

-- And then the request is answered.
pub record IsAnsweredSo {M : Type 0} (Serves : M → Event → Reply → M → Type 0) (request : Request) (who : WhoCounts) (response : Response)
    (before after : Server) (old new : M) : Type 0 where
  pub kept : Server
  pub mid : M
  pub found : IsFoundSo Serves request who before kept old mid
  pub of_user : IsOfUser who request.cred
  pub answers : CarriesOut Serves (answered_as (is_nobody who) request kept) mid new (response, after)

-- The request is read, its plan is performed, and the answer is told.
pub record IsRound {M K : Type 0} (Serves : M → Event → Reply → M → Type 0) (Does : K → Exchange → K → Type 0)
    (old : Parties M K) (round : Round) (new : Parties M K) : Type 0 where
  pub goes_on : old.server.ended ≡ false
  pub hears : Hears round.bytes round.outside round.request
  pub passes : Passes Does old.kernel (exchanges round) new.kernel
  pub performs : IsAnsweredSo Serves round.request round.who round.response old.server new.server old.machine new.machine

-- ---- several

pub data Rounds {M K : Type 0} (Serves : M → Event → Reply → M → Type 0) (Does : K → Exchange → K → Type 0)
    : Parties M K → List Round → Parties M K → Type 0 where
  no_round : (s : Parties M K) → Rounds Serves Does s [] s
  one_round : (round : Round) (rounds : List Round) (old mid new : Parties M K)
      → IsRound Serves Does old round mid → Rounds Serves Does mid rounds new → Rounds Serves Does old (round ∷ rounds) new

-- A session was told to end, or no more requests come, or a read isn't whole.
pub data IsEnd {K : Type 0} (Does : K → Exchange → K → Type 0) (server : Server) (old new : K) : Type 0 where
  was_told : server.ended ≡ true → new ≡ old → IsEnd Does server old new
  no_more : Does old ReadsEnd new → IsEnd Does server old new
  not_whole : (bytes : List ℕ) → request_of bytes ≡ Err NotWhole → Does old (Reads bytes) new → IsEnd Does server old new

-- Nothing is asked any more.
pub record HasEnded {M K : Type 0} (Does : K → Exchange → K → Type 0) (old new : Parties M K) : Type 0 where
  pub machine : new.machine ≡ old.machine
  pub server : new.server ≡ old.server
  pub is_end : IsEnd Does old.server old.kernel new.kernel

-- our own limit
abbrev pub rounds_limit : ℕ
rounds_limit = 2 ^ 64 - 1

abbrev pub heard_in : Round → List ℕ × Outside
heard_in r = (r.bytes, r.outside)

-- what was taken of the answer
abbrev pub taken_bytes : Round → List ℕ
taken_bytes r = if r.taken then response_bytes r.request.unique r.response else []

abbrev pub bytes_sent : Exchange → List ℕ
bytes_sent (Writes bytes true) = bytes
bytes_sent _ = []

-- The requests of the rounds are those that the reads say. Their plans, run one after another, give the answers; and what was
-- written and taken is these answers.
pub record AreServed {M K : Type 0} (Serves : M → Event → Reply → M → Type 0) (Does : K → Exchange → K → Type 0)
    (old : Parties M K) (rounds : List Round) (new : Parties M K) : Type 0 where
  pub hears : HearsAll (map heard_in rounds) (map (λ r. r.request) rounds)
  pub performs : CarriesOut Serves (requests_plan (map (λ r. r.request) rounds) old.server) old.machine new.machine (map (λ r. r.response) rounds, new.server)
  pub passes : Passes Does old.kernel (flat_map exchanges rounds) new.kernel
  pub is_written : flat_map bytes_sent (flat_map exchanges rounds) ≡ flat_map taken_bytes rounds

-- Requests were served until the end.
pub record ServedAll {M K : Type 0} (Serves : M → Event → Reply → M → Type 0) (Does : K → Exchange → K → Type 0)
    (old new : Parties M K) : Type 0 where
  pub rounds : List Round
  pub last : Parties M K
  pub in_order : Rounds Serves Does old rounds last
  pub served : AreServed Serves Does old rounds last
  pub end : HasEnded Does last new ⊎ ((length rounds ≡ rounds_limit) × (new ≡ last))

-- ---- until a fault

-- No request could be read.
abbrev pub IsOfRead : ServeFault → Type 0
IsOfRead (faults.Read error) = Unit {0}
IsOfRead _ = ⊥

-- The time isn't known.
abbrev pub IsOfClock : ServeFault → Type 0
IsOfClock (faults.Clock error) = Unit {0}
IsOfClock _ = ⊥

-- The reply could not be made, or not be written.
abbrev pub IsOfReply : ServeFault → Type 0
IsOfReply (faults.Reply fault) = Unit {0}
IsOfReply (faults.Write error) = Unit {0}
IsOfReply _ = ⊥

-- How a round breaks off, and the request, if one was performed, whose answer is untold. What passes with the fault isn't known.
pub data IsBreak {K : Type 0} (Does : K → Exchange → K → Type 0) (fault : ServeFault) (old : K) : List Round → Type 0 where
  no_request : IsOfRead fault → IsBreak Does fault old []
  -- one is read, and nothing is asked for it
  no_time : (bytes : List ℕ) (reached : K) → IsOfClock fault → Does old (Reads bytes) reached → IsBreak Does fault old []
  -- the plan is performed, and whether the answer is taken isn't known
  no_reply : (untold : Round) (reached : K) → IsOfReply fault
      → Passes Does old (Reads untold.bytes ∷ learns untold.who (request_of untold.bytes) untold.outside) reached → IsBreak Does fault old (untold ∷ [])

-- The requests of rounds are those that the reads say. Their plans, run one after another, give the answers, told or untold.
pub record ArePerformed {M K : Type 0} (Serves : M → Event → Reply → M → Type 0) (old : Parties M K) (rounds : List Round) (new : Parties M K) : Type 0 where
  pub hears : HearsAll (map heard_in rounds) (map (λ r. r.request) rounds)
  pub performs : CarriesOut Serves (requests_plan (map (λ r. r.request) rounds) old.server) old.machine new.machine (map (λ r. r.response) rounds, new.server)

-- for the first of these what is due was done, and it was found who counts
abbrev pub IsDecided : {M K : Type 0} → (M → Event → Reply → M → Type 0) → Parties M K → List Round → Type 0
IsDecided Serves old [] = Unit {0}
IsDecided {M} Serves old (round ∷ rounds) =
    (kept : Server) × (mid : M) × IsFoundSo Serves round.request round.who old.server kept old.machine mid

-- No more is asked than the plan of the request that is untold, if one is.
pub record Breaks {M K : Type 0} (Serves : M → Event → Reply → M → Type 0) (Does : K → Exchange → K → Type 0) (fault : ServeFault)
    (old new : Parties M K) : Type 0 where
  pub goes_on : old.server.ended ≡ false
  pub untold : List Round
  pub is_break : IsBreak Does fault old.kernel untold
  pub found : IsDecided Serves old untold
  pub performed : ArePerformed Serves old untold new

-- Requests were served until a fault. All that was asked is their plans, and that of the request that is untold, one after another.
pub record BrokenOff {M K : Type 0} (Serves : M → Event → Reply → M → Type 0) (Does : K → Exchange → K → Type 0) (fault : ServeFault)
    (old new : Parties M K) : Type 0 where
  pub rounds : List Round
  pub last : Parties M K
  pub in_order : Rounds Serves Does old rounds last
  pub served : AreServed Serves Does old rounds last
  pub break : Breaks Serves Does fault last new
  pub performed : ArePerformed Serves old (rounds ++ break.untold) new
