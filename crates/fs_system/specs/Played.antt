-- What `play` promises of events with stops among them.
--     begun        the machine as the first mount leaves it
--     CountsFor        its faults are the device's
--     PlayedFrom, Played        the replies are those of a run, whose trees cover what a stop leaves
--     Unplayed        why nothing was played
use Rattle.std.specs.Prelude.{◌≤◌, ◌⊎◌, ◌+◌, ◌-◌, ◌^◌, ℕ, List, [], ◌∷◌, true}
use Rattle.sector_disk.specs.Disk.{DiskState}
use Rattle.fs_model.specs.declared.event.Event.{Event}
use Rattle.fs_model.specs.declared.event.EventReply.{EventReply}
use Rattle.fs_model.specs.Trees.{Tree, Room}
use Rattle.fs_model.specs.TreeChanges.{pruned}
use Rattle.fs_model.specs.States.{MayBeFree}
use Rattle.fs_model.specs.Stops.{Machine, MachineRun}
use Rattle.fs_system.specs.declared.faults.PlayFault.{PlayFault}
use Rattle.fs_system.specs.declared.faults.PlayFault.TheVariants.{Mount, OutOfMemory}
use Rattle.fs_system.specs.Mounts.{IsNotMounted, mounted}
use Rattle.fs_images.specs.Standing.{StandsFor, StandsForSome, Covers}

-- up, without processes, and with one tree that a stop may leave
abbrev pub begun : Room → Tree → ℕ → Machine
begun room tree free = record { state = mounted room tree free; trees = pruned tree ∷ []; is_up = true; faults = 0 }

-- no more faults than the device has counted, as far as it counts
abbrev pub CountsFor : ℕ → DiskState → DiskState → Type 0
CountsFor faults start now = (faults + start.failures ≤ now.failures) ⊎ (2 ^ 64 - 1 ≤ now.failures)

-- From a disk that stood for this tree to one as it is now: a run of the machine over the events has these replies, each image
-- that a stop may leave stands for one of its last trees, and it counts no more faults than the device.
pub record PlayedFrom (before now : DiskState) (room : Room) (tree : Tree) (es : List Event) (replies : List EventReply) : Type 0 where
  pub free : ℕ
  pub may_be_free : MayBeFree room (pruned tree) free
  pub last : Machine
  pub runs : MachineRun (begun room tree free) es replies last
  pub images : Covers room last.trees now
  pub faults : CountsFor last.faults before now

-- The disk stood for a tree, and it is so from each one for which it stood.
pub record Played (before now : DiskState) (es : List Event) (replies : List EventReply) : Type 0 where
  pub some : StandsForSome before.seen
  pub each : (room : Room) (tree : Tree) (free : ℕ) → StandsFor room before.seen tree free → PlayedFrom before now room tree es replies

-- The disk was not mounted; or it was, and no event has happened.
abbrev pub Unplayed : DiskState → DiskState → PlayFault → Type 0
Unplayed before now (Mount fault) = IsNotMounted before now fault
Unplayed before now OutOfMemory = Played before now [] []
