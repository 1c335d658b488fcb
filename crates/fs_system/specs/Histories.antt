-- Histories: events with stops among them, on a disk with a file system or without one, as runs of the machine.
--     Stopped        what a stop does
--     Config, Goes, History        a disk with a file system or without one, one event, and several
--     on_disk        the same, on another disk
--     Follows, HistoriesAreRuns        the machine goes along
use Rattle.std.specs.Prelude.{◌≡◌, ◌≤◌, ℕ, List, [], ◌∷◌, Option, IsTrue, IsFalse, Contains}
use Rattle.sector_disk.specs.Disk.{DiskState, Image, IsImage, IsSame}
use Rattle.fs_model.specs.declared.reply.Reply.{Reply}
use Rattle.fs_model.specs.declared.event.Event.{Event}
use Rattle.fs_model.specs.declared.event.Event.TheVariants.{Arm, Restart}
use Rattle.fs_model.specs.declared.event.EventReply.{EventReply}
use Rattle.fs_model.specs.declared.event.EventReply.TheVariants.{Reply as Replies, Armed, Mounted, MountFailed, Down}
use Rattle.fs_model.specs.declared.event.RestartFault.{RestartFault}
use Rattle.fs_model.specs.Trees.{Room}
use Rattle.fs_model.specs.States.{State}
use Rattle.fs_model.specs.Steps.{is_of_machine}
use Rattle.fs_model.specs.Stops.{Machine, MachineRun}
use Rattle.fs_images.specs.Standing.{Covers}
use Rattle.fs_system.specs.Doing.{Does}
use Rattle.fs_system.specs.Mounts.{Mounts, FailsToMount}
use Rattle.fs_system.specs.Played.{CountsFor}

-- A stop leaves one of the images that might have been left, all of it stable.
pub record Stopped (before now : DiskState) : Type 0 where
  pub image : IsImage before now.seen
  pub each : (image : Image) → IsImage now image → image ≡ now.seen
  pub later : before.failures ≤ now.failures

-- ---- histories

-- a disk with a file system in this state, or with none
pub data Config (D : Type 0) : Type 0 where
  Up : State → D → Config D
  Off : D → Config D

abbrev pub device : {D : Type 0} → Config D → D
device (Up s disk) = disk
device (Off disk) = disk

-- What an event does to a disk, with its file system or without one.
pub data Goes {D : Type 0} (state : D → DiskState) : Config D → Event → EventReply → Config D → Type 0 where
  does : (before now : D) (s t : State) (e : Event) (reply : Reply) → Does (state before) (state now) s e reply t
      → Goes state (Up s before) e (Replies reply) (Up t now)
  is_down : (disk : D) (e : Event) → IsTrue (is_of_machine e) → Goes state (Off disk) e Down (Off disk)
  arms_up : (before now : D) (s : State) (k : ℕ) → IsSame (state before) (state now) → (state before).failures ≤ (state now).failures
      → Goes state (Up s before) (Arm k) Armed (Up s now)
  arms_off : (before now : D) (k : ℕ) → IsSame (state before) (state now) → (state before).failures ≤ (state now).failures
      → Goes state (Off before) (Arm k) Armed (Off now)
  restarts : (c : Config D) (mid now : D) (s : State) (bytes : List ℕ) (arm : Option ℕ) → Stopped (state (device c)) (state mid)
      → Mounts (state mid) (state now) s → Goes state c (Restart bytes arm) Mounted (Up s now)
  fails : (c : Config D) (mid now : D) (fault : RestartFault) (bytes : List ℕ) (arm : Option ℕ) → Stopped (state (device c)) (state mid)
      → FailsToMount (state mid) (state now) fault → Goes state c (Restart bytes arm) (MountFailed fault) (Off now)

-- a file system as it was, or none, on a disk that has let go of its past
abbrev pub on_disk : {D : Type 0} → Config D → D → Config D
on_disk (Up s disk) now = Up s now
on_disk (Off disk) now = Off now

-- a history, one event after another; in between the disk may let go of its past
pub data History {D : Type 0} (state : D → DiskState) : Config D → List Event → List EventReply → Config D → Type 0 where
  ends : (c : Config D) → History state c [] [] c
  goes : (old mid new : Config D) (e : Event) (reply : EventReply) (es : List Event) (replies : List EventReply)
      → Goes state old e reply mid → History state mid es replies new → History state old (e ∷ es) (reply ∷ replies) new
  forgets : (old new : Config D) (now : D) (es : List Event) (replies : List EventReply) → IsSame (state (device old)) (state now)
      → (state (device old)).failures ≤ (state now).failures → History state (on_disk old now) es replies new → History state old es replies new

-- ---- runs

-- the present tree is one of those that a stop may leave
abbrev pub HasConfig : {D : Type 0} → Machine → Config D → Type 0
HasConfig m (Up s disk) = IsTrue m.is_up × (m.state ≡ s) × (IsFalse s.halted → Contains m.trees s.tree)
HasConfig m (Off disk) = IsFalse m.is_up

-- the machine has the state, and its trees cover what a stop leaves
pub record Follows {D : Type 0} (state : D → DiskState) (room : Room) (start : DiskState) (m : Machine) (c : Config D) : Type 0 where
  pub same_room : m.state.room ≡ room
  pub has_config : HasConfig m c
  pub covers : Covers room m.trees (state (device c))
  pub faults : CountsFor m.faults start (state (device c))

-- Each history is a run of the machine, whose trees cover what a stop leaves.
abbrev pub HistoriesAreRuns : {D : Type 0} → (D → DiskState) → Type 0
HistoriesAreRuns {D} state =
    (room : Room) (start : D) (m : Machine) (old new : Config D) (es : List Event) (replies : List EventReply)
    → Follows state room (state start) m old → History state old es replies new
    → (last : Machine) × MachineRun m es replies last × Follows state room (state start) last new
