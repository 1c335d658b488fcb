-- What a mount leaves, and why a disk is not mounted.
--     mounted, IsMounted, Mounts        a mount finds the tree for which the disk stands
--     FailsToMount        the device failed, or memory is lacking
--     IsNotMounted        why a disk is not mounted
use Rattle.std.specs.Prelude.{◌≡◌, ◌≢◌, ◌≤◌, ℕ, [], false}
use Rattle.sector_disk.specs.Disk.{DiskState, Image, IsImage, HasFailed}
use Rattle.fs_model.specs.declared.event.RestartFault.{RestartFault}
use Rattle.fs_model.specs.declared.event.RestartFault.TheVariants as restarts
use Rattle.fs_model.specs.Trees.{Tree, Room}
use Rattle.fs_model.specs.TreeChanges.{pruned}
use Rattle.fs_model.specs.States.{State, MayBeFree}
use Rattle.fs_system.specs.declared.faults.MountFault.{MountFault}
use Rattle.fs_system.specs.declared.faults.MountFault.TheVariants.{NotAFileSystem, Damaged, DiskFault, OutOfMemory}
use Rattle.fs_images.specs.Standing.{StandsFor, StandsForSome, StandsAsPruned, EachStandsFor, HasFinding}

-- the state as a mount leaves it, until the time is told
abbrev pub mounted : Room → Tree → ℕ → State
mounted room t free = record { room = room; tree = pruned t; processes = []; openings = []; free = free; now = 0; halted = false }

-- The state is that of a mount on this tree, and each image stands for that tree, but for files without names.
pub record IsMounted (now : DiskState) (room : Room) (tree : Tree) (s : State) : Type 0 where
  pub is_mounted : s ≡ mounted room tree s.free
  pub free : MayBeFree room (pruned tree) s.free
  pub images : EachStandsFor room now (pruned tree)

-- A mount finds the tree for which the disk stands.
pub record Mounts (before now : DiskState) (s : State) : Type 0 where
  pub some : StandsForSome before.seen
  pub each : (room : Room) (tree : Tree) (free : ℕ) → StandsFor room before.seen tree free → IsMounted now room tree s
  pub later : before.failures ≤ now.failures
  -- no write and no sync has failed
  pub unhalted : now.failed_writes ≡ before.failed_writes

-- A mount that fails leaves what stands for the same trees, but for files without names.
pub record FailsToMount (before now : DiskState) (fault : RestartFault) : Type 0 where
  pub images : (image : Image) → IsImage now image → (from : Image) × IsImage before from × StandsAsPruned from image
  pub later : before.failures ≤ now.failures
  pub cause : fault ≡ restarts.DiskFault → HasFailed before now

-- Why a disk was not mounted.
abbrev pub IsNotMounted : DiskState → DiskState → MountFault → Type 0
IsNotMounted before now NotAFileSystem = (at : ℕ) × HasFinding before now 1 at
IsNotMounted before now (Damaged f) = HasFinding before now f.rule f.at × (f.rule ≢ 1)
IsNotMounted before now DiskFault = FailsToMount before now restarts.DiskFault
IsNotMounted before now OutOfMemory = FailsToMount before now restarts.OutOfMemory
