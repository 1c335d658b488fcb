-- What a session does on a file system is a history of what its plans ask.
use Rattle.std.specs.Prelude.{◌≡◌, ◌⊎◌, List, [], ◌∷◌, ◌++◌, map, length, Result, Ok, Err, OnOk, IfErr}
use Rattle.std.proofs.Common.{refl, inl, inr, subst, sym, ap}
use Rattle.sector_disk.specs.Disk.{DiskState}
use Rattle.fs_model.specs.declared.event.EventReply.TheVariants.{Reply as Replies}
use Rattle.fs_system.specs.Seen.{System}
use Rattle.fs_system.proofs.Played.{plays_nothing, plays_joined}
use Rattle.fuse_state.specs.Servers.{new_server}
use Rattle.fuse_state.specs.declared.settings.Settings.{Settings}
use Rattle.fuse_plans.specs.Plans.{Plan, CarriesOut, finishes, asks}
use Rattle.fuse_plans.specs.Serving.{requests_plan}
use Rattle.fuse_serving.specs.Exchanges.{Exchange}
use Rattle.fuse_serving.specs.Rounds.{Parties, Round, AreServed, IsEnd, HasEnded, ServedAll, BrokenOff, rounds_limit}
use Rattle.fuse_serving.specs.declared.fault.ServeFault.{ServeFault}
use Rattle.fs_fuse.specs.Performing.{ServesOne, Performed, Served, ServedFrom, BrokenFrom, ServingEnds, broke_off}

module _ {D X : Type 0} (state : D → DiskState) where
  pub performed : (plan : Plan X) (old new : System D) (x : X) → CarriesOut (ServesOne state) plan old new x → Performed state plan old new x
  performed plan old new x (finishes _ _) = record { events = []; replies = []; asked = refl; plays = plays_nothing state (Ok old) }
  performed plan old new x (asks e next reply _ mid _ _ serves rest) =
      let more : Performed state (next reply) mid new x = performed (next reply) mid new x rest in
      record {
        events = e ∷ more.events;
        replies = reply ∷ more.replies;
        asked = (refl, more.asked);
        plays = plays_joined state (Ok old) (Ok mid) (Ok new) (e ∷ []) more.events (Replies reply ∷ []) (map Replies more.replies) serves more.plays;
      }

module _ {D K : Type 0} (state : D → DiskState) (Does : K → Exchange → K → Type 0) (settings : Settings) where
  -- a session that was served, until its last request
  pub served_until : (old last : Parties (System D) K) (new : System D) (after : K) (rounds : List Round)
      → old.server ≡ new_server settings
      → AreServed (ServesOne state) Does old rounds last → new ≡ last.machine
      → IsEnd Does last.server last.kernel after ⊎ ((length rounds ≡ rounds_limit) × (after ≡ last.kernel))
      → ServedFrom state Does settings old.machine new old.kernel after
  served_until old last new after rounds begun are is end =
      let done : Served state (map (λ r. r.request) rounds) old.machine last.machine old.server last.server (map (λ r. r.response) rounds) =
      performed state (requests_plan (map (λ r. r.request) rounds) old.server) old.machine last.machine (map (λ r. r.response) rounds, last.server) are.performs in
      record {
        rounds = rounds;
        server = last.server;
        last = last.kernel;
        hears = are.hears;
        served = subst (λ n. Served state (map (λ r. r.request) rounds) old.machine n (new_server settings) last.server (map (λ r. r.response) rounds)) (sym is)
            (subst (λ s. Served state (map (λ r. r.request) rounds) old.machine last.machine s last.server (map (λ r. r.response) rounds)) begun done);
        passes = are.passes;
        is_written = are.is_written;
        end = end;
      }

  -- a session that was served
  pub served_from : (old new : Parties (System D) K) → old.server ≡ new_server settings → ServedAll (ServesOne state) Does old new
      → ServedFrom state Does settings old.machine new.machine old.kernel new.kernel
  served_from old new begun all = ends all.end
    where
      ends : HasEnded Does all.last new ⊎ ((length all.rounds ≡ rounds_limit) × (new ≡ all.last))
          → ServedFrom state Does settings old.machine new.machine old.kernel new.kernel
      ends (inl e) = served_until old all.last new.machine new.kernel all.rounds begun all.served e.machine (inl e.is_end)
      ends (inr many) =
          served_until old all.last new.machine new.kernel all.rounds begun all.served (ap (λ (s : Parties (System D) K). s.machine) many.1)
          (inr (many.0, ap (λ (s : Parties (System D) K). s.kernel) many.1))

  -- a session that broke off
  pub broken_from : (old new : Parties (System D) K) (fault : ServeFault) → old.server ≡ new_server settings
      → BrokenOff (ServesOne state) Does fault old new → BrokenFrom state Does settings fault old.machine new.machine old.kernel
  broken_from old new fault begun b =
      let heard : List Round = b.rounds ++ b.break.untold in
      let done : Served state (map (λ r. r.request) heard) old.machine new.machine old.server new.server (map (λ r. r.response) heard) =
      performed state (requests_plan (map (λ r. r.request) heard) old.server) old.machine new.machine (map (λ r. r.response) heard, new.server) b.performed.performs in
      record {
        rounds = b.rounds;
        untold = b.break.untold;
        server = new.server;
        last = b.last.kernel;
        hears = b.performed.hears;
        served = subst (λ s. Served state (map (λ r. r.request) heard) old.machine new.machine s new.server (map (λ r. r.response) heard)) begun done;
        passes = b.served.passes;
        is_written = b.served.is_written;
        is_break = b.break.is_break;
      }

  -- a session, however it ended, between a file system that was given and one that comes back
  pub serves_between : (old new : Parties (System D) K) (first last : System D) (served : Result (Unit {0}) ServeFault)
      → old.machine ≡ first → old.server ≡ new_server settings → new.machine ≡ last
      → OnOk served (ServedAll (ServesOne state) Does old new) → IfErr served (λ fault. BrokenOff (ServesOne state) Does fault old new)
      → ServingEnds state Does settings first last old.kernel new.kernel served
  serves_between old new first last (Err fault) is begun end all broken =
      broke_off
      (subst (λ f. BrokenFrom state Does settings fault f last old.kernel) is
      (subst (λ l. BrokenFrom state Does settings fault old.machine l old.kernel) end (broken_from old new fault begun broken)))
  serves_between old new first last (Ok done) is begun end all broken =
      subst (λ f. ServedFrom state Does settings f last old.kernel new.kernel) is
      (subst (λ l. ServedFrom state Does settings old.machine l old.kernel new.kernel) end (served_from old new begun all))
