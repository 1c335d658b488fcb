-- What the pieces of a round come to.
--     AnswersOne, AnswersWithMemory        a request that was spoken is answered, once it is known whether who asks counts
--     scene        of a performer and the kernel
--     SpokenServed        the same, and its answer is told
--     ReadComesTo        a read, by whether the server goes on
--     ComesTo        the next round, or none
--     ReadBreaks        the round of a read breaks off
use Rattle.std.specs.Prelude.{◌≡◌, ℕ, Bool, true, false, List, ◌++◌, Option, Ok, Err}
use Rattle.posix_acl.specs.AccessList.{AccessList}
use Rattle.fs_model.specs.declared.event.Event.{Event}
use Rattle.fs_model.specs.declared.reply.Reply.{Reply}
use Rattle.fuse_protocol.specs.declared.reply.Time.{Time}
use Rattle.fuse_protocol.specs.declared.request.Request.{Request as WireRequest}
use Rattle.fuse_protocol.specs.declared.request.RequestFault.TheVariants.{NotWhole}
use Rattle.fuse_protocol.specs.Requests.{request_of}
use Rattle.fuse_state.specs.Servers.{Server}
use Rattle.fuse_plans.specs.declared.reply.Response.{Response}
use Rattle.fuse_plans.specs.Plans.{CarriesOut}
use Rattle.fuse_plans.specs.Requests.{Outside}
use Rattle.fuse_plans.specs.Protocol.{HasValue, Hears, request_from}
use Rattle.fuse_plans.specs.declared.request.WhoCounts.{WhoCounts}
use Rattle.fuse_plans.specs.Serving.{answered_as}
use Rattle.fuse_serving.specs.declared.caller.Caller.{Caller}
use Rattle.fuse_serving.specs.declared.fault.ServeFault.{ServeFault}
use Rattle.fuse_serving.specs.Exchanges.{Exchange, Reads, Passes}
use Rattle.fuse_serving.specs.Rounds.{Round, Parties, IsAnsweredSo, IsRound, HasEnded, IsBreak, IsDecided, ArePerformed, learns, tells, later_exchanges}

-- with memory for what is added, or without
abbrev pub known : Caller → Time → Bool → Outside
known caller now memory = record { groups = caller.groups; caps = caller.caps; now = now; memory = memory }

pub record AnswersOne {M : Type 0} (Serves : M → Event → Reply → M → Type 0) (spoken : WireRequest) (caller : Caller) (nobody : Bool)
    (now : Time) (old new : M) (before after : Server) (response : Response) : Type 0 where
  pub memory : Bool
  pub acl : Option (Option AccessList)
  pub has_value : memory ≡ true → HasValue spoken.operation acl
  pub performs : CarriesOut Serves (answered_as nobody (request_from (known caller now memory) acl spoken) before) old new (response, after)

-- a request is answered so where there was memory
pub record AnswersWithMemory {M : Type 0} (Serves : M → Event → Reply → M → Type 0) (spoken : WireRequest) (caller : Caller) (nobody : Bool)
    (now : Time) (old new : M) (before after : Server) (response : Response) : Type 0 where
  pub acl : Option (Option AccessList)
  pub has_value : HasValue spoken.operation acl
  pub performs : CarriesOut Serves (answered_as nobody (request_from (known caller now true) acl spoken) before) old new (response, after)

-- a performer and the kernel
abbrev pub scene : {P M K : Type 0} → (P → M) → (P → Server) → P → K → Parties M K
scene machine server p kernel = record { machine = machine p; server = server p; kernel = kernel }

-- A request that was spoken is served: its plan is performed, and the answer is told.
pub record SpokenServed {M K : Type 0} (Serves : M → Event → Reply → M → Type 0) (Does : K → Exchange → K → Type 0)
    (spoken : WireRequest) (old new : Parties M K) : Type 0 where
  pub outside : Outside
  pub acl : Option (Option AccessList)
  pub has_value : outside.memory ≡ true → HasValue spoken.operation acl
  pub who : WhoCounts
  pub response : Response
  pub taken : Bool
  pub performs : IsAnsweredSo Serves (request_from outside acl spoken) who response old.server new.server old.machine new.machine
  pub passes : Passes Does old.kernel (learns who (Ok spoken) outside ++ tells spoken.unique response taken) new.kernel

-- The request that was read is served.
pub record ReadServed {M K : Type 0} (Serves : M → Event → Reply → M → Type 0) (Does : K → Exchange → K → Type 0)
    (bytes : List ℕ) (old new : Parties M K) : Type 0 where
  pub round : Round
  pub is_read : round.bytes ≡ bytes
  pub hears : Hears bytes round.outside round.request
  pub passes : Passes Does old.kernel (later_exchanges round) new.kernel
  pub performs : IsAnsweredSo Serves round.request round.who round.response old.server new.server old.machine new.machine

-- A read that isn't whole changes nothing.
pub record IsNotWhole {M K : Type 0} (bytes : List ℕ) (old new : Parties M K) : Type 0 where
  pub not_whole : request_of bytes ≡ Err NotWhole
  pub machine : new.machine ≡ old.machine
  pub server : new.server ≡ old.server
  pub kernel : new.kernel ≡ old.kernel

abbrev pub ReadComesTo : {M K : Type 0} → (M → Event → Reply → M → Type 0) → (K → Exchange → K → Type 0)
    → List ℕ → Parties M K → Parties M K → Bool → Type 0
ReadComesTo Serves Does bytes old new true = ReadServed Serves Does bytes old new
ReadComesTo Serves Does bytes old new false = IsNotWhole bytes old new

abbrev pub ComesTo : {M K : Type 0} → (M → Event → Reply → M → Type 0) → (K → Exchange → K → Type 0)
    → Parties M K → Parties M K → Bool → Type 0
ComesTo Serves Does old new true = (round : Round) × IsRound Serves Does old round new
ComesTo Serves Does old new false = HasEnded Does old new

-- A request was read, and its round breaks off.
pub record ReadBreaks {M K : Type 0} (Serves : M → Event → Reply → M → Type 0) (Does : K → Exchange → K → Type 0) (bytes : List ℕ)
    (fault : ServeFault) (old new : Parties M K) : Type 0 where
  pub untold : List Round
  pub is_break : (before : K) → Does before (Reads bytes) old.kernel → IsBreak Does fault before untold
  pub found : IsDecided Serves old untold
  pub performed : ArePerformed Serves old untold new
