-- What is promised where requests are served from a file system.
--     ServesOne        one event, after the disk has let go of its past
--     Performed        the file system went on by a history of just what the plan asks
--     Served        requests were served, one after another
--     ServesHistories        what is carried out on a file system is served so
--     ServedFrom        the same of all requests until the end, and of what was read and written
--     BrokenFrom, Faulted        the same until a fault
--     ServingEnds        either, by how it ends
use Rattle.std.specs.Prelude.{◌≡◌, ◌⊎◌, List, [], ◌∷◌, ◌++◌, map, length, Result, Ok, Err}
use Rattle.std.specs.List.{flat_map}
use Rattle.sector_disk.specs.Disk.{DiskState}
use Rattle.fs_model.specs.declared.event.Event.{Event}
use Rattle.fs_model.specs.declared.event.EventReply.TheVariants.{Reply as Replies}
use Rattle.fs_model.specs.declared.reply.Reply.{Reply}
use Rattle.fs_system.specs.Playing.{Plays}
use Rattle.fs_system.specs.Seen.{System}
use Rattle.fuse_state.specs.Servers.{Server, new_server}
use Rattle.fuse_state.specs.declared.settings.Settings.{Settings}
use Rattle.fuse_plans.specs.declared.reply.Response.{Response}
use Rattle.fuse_plans.specs.Plans.{Plan, IsRunOf, CarriesOut}
use Rattle.fuse_plans.specs.Requests.{Request}
use Rattle.fuse_plans.specs.Serving.{requests_plan}
use Rattle.fuse_plans.specs.Protocol.{HearsAll}
use Rattle.fuse_serving.specs.Exchanges.{Exchange, Passes}
use Rattle.fuse_serving.specs.Rounds.{Round, IsEnd, IsBreak, heard_in, exchanges, bytes_sent, taken_bytes, rounds_limit}
use Rattle.fuse_serving.specs.declared.fault.ServeFault.{ServeFault}
use Rattle.fuse_serving.specs.declared.fault.ServeFault.TheVariants.{OutOfMemory}

abbrev pub ServesOne : {D : Type 0} → (D → DiskState) → System D → Event → Reply → System D → Type 0
ServesOne state old e reply new = Plays state (Ok old) (e ∷ []) (Replies reply ∷ []) (Ok new)

-- The file system went from old to new by a history of the events that the plan asks, with their replies, and with these the
-- plan is done with the result.
pub record Performed {D X : Type 0} (state : D → DiskState) (plan : Plan X) (old new : System D) (result : X) : Type 0 where
  pub events : List Event
  pub replies : List Reply
  pub asked : IsRunOf plan events replies result
  pub plays : Plays state (Ok old) events (map Replies replies) (Ok new)

-- Requests were served, one after another: the answers are those of their plans.
abbrev pub Served : {D : Type 0} → (D → DiskState) → List Request → System D → System D → Server → Server → List Response → Type 0
Served state requests old new before after responses = Performed state (requests_plan requests before) old new (responses, after)

-- What is carried out on a file system, one event after another, is one history.
abbrev pub ServesHistories : {D : Type 0} → (D → DiskState) → Type 0
ServesHistories {D} state =
    (requests : List Request) (old new : System D) (before after : Server) (responses : List Response)
    → CarriesOut (ServesOne state) (requests_plan requests before) old new (responses, after) → Served state requests old new before after responses

-- The kernel's requests were served by a server that had just begun, until the end. The requests are those that the reads say.
-- The answers are those of their plans, which are one history of the file system; and what was written and taken is these answers.
pub record ServedFrom {D K : Type 0} (state : D → DiskState) (Does : K → Exchange → K → Type 0) (settings : Settings)
    (old new : System D) (before after : K) : Type 0 where
  pub rounds : List Round
  pub server : Server
  pub last : K
  pub hears : HearsAll (map heard_in rounds) (map (λ r. r.request) rounds)
  pub served : Served state (map (λ r. r.request) rounds) old new (new_server settings) server (map (λ r. r.response) rounds)
  pub passes : Passes Does before (flat_map exchanges rounds) last
  pub is_written : flat_map bytes_sent (flat_map exchanges rounds) ≡ flat_map taken_bytes rounds
  pub end : IsEnd Does server last after ⊎ ((length rounds ≡ rounds_limit) × (after ≡ last))

-- The kernel's requests were served by a server that had just begun, until a fault. Of the requests that were answered, and of what was
-- written and taken, the same holds. All that was asked of the file system is one history still: that of the plans of these
-- requests, and of the one that is untold, if one is.
pub record BrokenFrom {D K : Type 0} (state : D → DiskState) (Does : K → Exchange → K → Type 0) (settings : Settings) (fault : ServeFault)
    (old new : System D) (before : K) : Type 0 where
  pub rounds : List Round
  pub untold : List Round
  pub server : Server
  pub last : K
  pub hears : HearsAll (map heard_in (rounds ++ untold)) (map (λ r. r.request) (rounds ++ untold))
  pub served : Served state (map (λ r. r.request) (rounds ++ untold)) old new (new_server settings) server (map (λ r. r.response) (rounds ++ untold))
  pub passes : Passes Does before (flat_map exchanges rounds) last
  pub is_written : flat_map bytes_sent (flat_map exchanges rounds) ≡ flat_map taken_bytes rounds
  pub is_break : IsBreak Does fault last untold

-- The serving ended with a fault.
pub data Faulted {D K : Type 0} (state : D → DiskState) (Does : K → Exchange → K → Type 0) (settings : Settings) (fault : ServeFault)
    (old new : System D) (before : K) : Type 0 where
  -- memory ran out before the first request
  has_not_begun : fault ≡ OutOfMemory → new ≡ old → Faulted state Does settings fault old new before
  broke_off : BrokenFrom state Does settings fault old new before → Faulted state Does settings fault old new before

-- Requests were served until the end, or a fault.
abbrev pub ServingEnds : {D K : Type 0} → (D → DiskState) → (K → Exchange → K → Type 0) → Settings → System D → System D → K → K
    → Result (Unit {0}) ServeFault → Type 0
ServingEnds state Does settings old new before after (Ok done) = ServedFrom state Does settings old new before after
ServingEnds state Does settings old new before after (Err fault) = Faulted state Does settings fault old new before
