-- What was served to a kernel was served to what is seen of it.
use Rattle.std.proofs.Common.{◌≡◌, ap, inl, inr, subst, List, ℕ, Option, [], ◌∷◌, Bool, Result, Ok, Err}
use Rattle.sector_disk.specs.Disk.{DiskState}
use Rattle.fs_model.specs.States.{State}
use Rattle.fs_model.specs.declared.event.Event.TheVariants.{Sync}
use Rattle.fs_model.specs.declared.reply.Reply.{Reply}
use Rattle.fs_system.specs.Doing.{HappensLast}
use Rattle.fs_system.specs.Mounts.{Mounts}
use Rattle.fs_system.specs.Seen.{System, disk_in, IsIn}
use Rattle.fuse_protocol.specs.declared.reply.Time.{Time}
use Rattle.fuse_state.specs.Servers.{Server}
use Rattle.fuse_state.specs.declared.settings.Settings.{Settings}
use Rattle.fuse_serving.specs.Exchanges.{Exchange, Reads, ReadsEnd, SeesTime, Passes, passes_none, passes_more}
use Rattle.fuse_serving.specs.Processes.{Showing, LearnsBy}
use Rattle.fuse_serving.specs.Rounds.{Round, IsEnd, was_told, no_more, not_whole, IsBreak, no_request, no_time, no_reply}
use Rattle.fuse_serving.specs.declared.fault.ServeFault.{ServeFault}
use Rattle.fs_fuse.specs.Performing.{ServedFrom, BrokenFrom, Faulted, has_not_begun, broke_off, ServingEnds}
use Rattle.fs_program.specs.Serving.{FuseEnds, ServesOn, ImageFuseEnds, FuseJobEnds, has_nothing_to_serve, has_no_list, serves, cannot_begin, cannot_mount, has_served, settings_of}
use Rattle.fs_program.specs.declared.failure.Failure.{Failure}
use Rattle.fs_command.specs.declared.status.Status.{Status}

module _ {K L : Type 0} (Does : K → Exchange → K → Type 0) (Shows : L → Exchange → L → Type 0) (seen : K → L)
    (shown : (old new : K) (x : Exchange) → Does old x new → Shows (seen old) x (seen new)) where
  pub passes_seen : (xs : List Exchange) (old new : K) → Passes Does old xs new → Passes Shows (seen old) xs (seen new)
  passes_seen [] old new (passes_none _) = passes_none (seen old)
  passes_seen (x ∷ xs) old new (passes_more _ _ _ mid _ does rest) =
      passes_more x xs (seen old) (seen mid) (seen new) (shown old mid x does) (passes_seen xs mid new rest)

  pub ends_seen : (server : Server) (old new : K) → IsEnd Does server old new → IsEnd Shows server (seen old) (seen new)
  ends_seen server old new (was_told is same) = was_told is (ap seen same)
  ends_seen server old new (no_more does) = no_more (shown old new ReadsEnd does)
  ends_seen server old new (not_whole bytes is does) = not_whole bytes is (shown old new (Reads bytes) does)

  pub breaks_seen : (fault : ServeFault) (old : K) (untold : List Round) → IsBreak Does fault old untold → IsBreak Shows fault (seen old) untold
  breaks_seen fault old [] (no_request is) = no_request is
  breaks_seen fault old [] (no_time bytes reached is does) = no_time bytes (seen reached) is (shown old reached (Reads bytes) does)
  breaks_seen fault old (round ∷ []) (no_reply _ reached is passes) =
      no_reply round (seen reached) is (passes_seen _ old reached passes)
  breaks_seen fault old (round ∷ (_ ∷ _)) breaks = elim breaks [ ]

  module _ {D : Type 0} (state : D → DiskState) where
    pub served_seen : (settings : Settings) (first last : System D) (before after : K) → ServedFrom state Does settings first last before after
        → ServedFrom state Shows settings first last (seen before) (seen after)
    served_seen settings first last before after s = record {
      rounds = s.rounds;
      server = s.server;
      last = seen s.last;
      hears = s.hears;
      served = s.served;
      passes = passes_seen _ before s.last s.passes;
      is_written = s.is_written;
      end = elim s.end [
        | inl end ↦ inl (ends_seen s.server s.last after end)
        | inr many ↦ inr (many.0, ap seen many.1)
      ];
    }

    broken_seen : (settings : Settings) (fault : ServeFault) (first last : System D) (before : K)
        → BrokenFrom state Does settings fault first last before → BrokenFrom state Shows settings fault first last (seen before)
    broken_seen settings fault first last before b = record {
      rounds = b.rounds;
      untold = b.untold;
      server = b.server;
      last = seen b.last;
      hears = b.hears;
      served = b.served;
      passes = passes_seen _ before b.last b.passes;
      is_written = b.is_written;
      is_break = breaks_seen fault b.last b.untold b.is_break;
    }

    faulted_seen : (settings : Settings) (fault : ServeFault) (first last : System D) (before : K)
        → Faulted state Does settings fault first last before → Faulted state Shows settings fault first last (seen before)
    faulted_seen settings fault first last before (has_not_begun is same) = has_not_begun is same
    faulted_seen settings fault first last before (broke_off b) = broke_off (broken_seen settings fault first last before b)

    serves_seen : (settings : Settings) (first last : System D) (before after : K) (served : Result (Unit {0}) ServeFault)
        → ServingEnds state Does settings first last before after served → ServingEnds state Shows settings first last (seen before) (seen after) served
    serves_seen settings first last before after (Ok done) s = served_seen settings first last before after s
    serves_seen settings first last before after (Err fault) s = faulted_seen settings fault first last before s

    pub fuse_ends_seen : (disk : D) (own_rules : Bool) (commit : ℕ) (before after : K) (result : Result Status Failure)
        → FuseEnds state Does disk own_rules commit before after result → FuseEnds state Shows disk own_rules commit (seen before) (seen after) result
    fuse_ends_seen disk own_rules commit before after result (cannot_begin fault is) = cannot_begin fault is
    fuse_ends_seen disk own_rules commit before after result (cannot_mount now fault is_not is) = cannot_mount now fault is_not is
    fuse_ends_seen disk own_rules commit before after result (has_served served reply s is) = has_served served reply (record {
      start = s.start;
      begun = seen s.begun;
      sees = shown before s.begun (SeesTime s.start) s.sees;
      first = s.first;
      s = s.s;
      is_first = s.is_first;
      mounts = s.mounts;
      last = s.last;
      serves = serves_seen (settings_of s.first.geometry own_rules commit s.start) s.first s.last s.begun after served s.serves;
      left = s.left;
      unmounts = s.unmounts;
    }) is

    pub image_fuse_ends_seen : (denials : Option (List ℕ)) (own_rules : Bool) (commit : ℕ) (before after : K) (result : Result Status Failure)
        → ImageFuseEnds state Does denials own_rules commit before after result → ImageFuseEnds state Shows denials own_rules commit (seen before) (seen after) result
    image_fuse_ends_seen denials own_rules commit before after result (has_nothing_to_serve is) = has_nothing_to_serve is
    image_fuse_ends_seen denials own_rules commit before after result (has_no_list some is) = has_no_list some is
    image_fuse_ends_seen denials own_rules commit before after result (serves disk fresh ends) =
        serves disk fresh (fuse_ends_seen disk own_rules commit before after result ends)

-- An image that was served to a kernel which learns by what is shown of processes.
pub fuse_job_ends : {D K S : Type 0} (state : D → DiskState) (Does : K → Exchange → K → Type 0) (Shows : S → Showing → S → Type 0)
    (denials : Option (List ℕ)) (own_rules : Bool) (commit : ℕ) (before after : K) (result : Result Status Failure)
    → ImageFuseEnds state Does denials own_rules commit before after result → (processes_of : K → S)
    → ((old new : K) (x : Exchange) → Does old x new → LearnsBy Shows (processes_of old) x (processes_of new)) → (processes : S)
    → processes_of before ≡ processes → FuseJobEnds state Shows processes denials own_rules commit result
fuse_job_ends {D} {K} {S} state Does Shows denials own_rules commit before after result ends processes_of learns processes same = (
  processes_of after,
  subst (λ (p : S). ImageFuseEnds state (LearnsBy Shows) denials own_rules commit p (processes_of after) result) same
      (image_fuse_ends_seen Does (LearnsBy Shows) processes_of learns state denials own_rules commit before after result ends),
)

-- a disk that was mounted, served from and unmounted
pub serves_on : {D K : Type 0} (state : D → DiskState) (Does : K → Exchange → K → Type 0) (disk left : D) (first last : System D) (own_rules : Bool)
    (commit : ℕ) (before begun after : K) (start : Time) (settings : Settings) (served : Result (Unit {0}) ServeFault) (reply : Reply)
    → Does before (SeesTime start) begun → (m : (s : State) × IsIn state first s × Mounts (state disk) (disk_in state first.base) s)
    → settings ≡ settings_of first.geometry own_rules commit start → ServingEnds state Does settings first last begun after served
    → HappensLast state last left Sync reply → ServesOn state Does disk own_rules commit before after served reply
serves_on state Does disk left first last own_rules commit before begun after start settings served reply sees m is ends unmounts = record {
  start = start;
  begun = begun;
  sees = sees;
  first = first;
  s = m.0;
  is_first = m.1;
  mounts = m.2;
  last = last;
  serves = subst (λ t. ServingEnds state Does t first last begun after served) is ends;
  left = left;
  unmounts = unmounts;
}
