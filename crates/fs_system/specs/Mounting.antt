-- What a mount goes through, and what holds of what it gives.
--     StandsAsBefore        what a stop leaves meanwhile
--     IsSystem        what holds of every file system
--     disk_mounted, disk_of_store        the disk, also after a fault
--     IsFaultOfCheck, fault_of        the fault of a mount for that of a check, and for the machine's
--     is_halted        whether a commit has failed
--     LeavesHalted        what is halted stays, with its disk
use Rattle.std.specs.Prelude.{◌≡◌, ◌≢◌, ◌⊎◌, Bool, true, false, IsTrue, Result, Ok, Err}
use Rattle.sector_disk.specs.Disk.{DiskState, Image, IsImage}
use Rattle.sector_txn.specs.Stores.{StoreView}
use Rattle.fs_model.specs.declared.event.RestartFault.{RestartFault}
use Rattle.fs_model.specs.declared.event.RestartFault.TheVariants as restarts
use Rattle.fs_check.specs.declared.faults.CheckFault.{CheckFault}
use Rattle.fs_check.specs.declared.faults.CheckFault.TheVariants as checks
use Rattle.fs_system.specs.declared.faults.MountFault.{MountFault}
use Rattle.fs_system.specs.declared.faults.MountFault.TheVariants.{NotAFileSystem, Damaged, DiskFault, OutOfMemory}
use Rattle.fs_system.specs.declared.base.Base.{Base}
use Rattle.fs_system.specs.declared.base.Base.TheVariants.{Halted}
use Rattle.fs_system.specs.Seen.{System, disk_in, IsInSomeState}
use Rattle.fs_images.specs.Standing.{EachStandsForSome, StandsAsPruned}

-- the image stands for what one from before it stood for, but for files without names
abbrev pub StandsAsBefore : DiskState → Image → Type 0
StandsAsBefore before image = (from : Image) × IsImage before from × StandsAsPruned from image

-- the disk, also after a fault
abbrev pub disk_mounted : {D E : Type 0} → (D → DiskState) → Result (System D) (E × D) → DiskState
disk_mounted state (Ok fs) = disk_in state fs.base
disk_mounted state (Err fault) = state fault.1

-- a finding of the rule on the superblock is that there is no file system, any other is damage
abbrev pub IsFaultOfCheck : CheckFault → MountFault → Type 0
IsFaultOfCheck (checks.Found f) fault = ((f.rule ≡ 1) × (fault ≡ NotAFileSystem)) ⊎ ((f.rule ≢ 1) × (fault ≡ Damaged f))
IsFaultOfCheck checks.DiskFault fault = fault ≡ DiskFault
IsFaultOfCheck checks.OutOfMemory fault = fault ≡ OutOfMemory

abbrev pub fault_of : RestartFault → MountFault
fault_of restarts.DiskFault = DiskFault
fault_of restarts.OutOfMemory = OutOfMemory

-- what holds of every file system: it is in some state, and a stop leaves what may be mounted
pub record IsSystem {D : Type 0} (state : D → DiskState) (fs : System D) : Type 0 where
  pub in_some : IsInSomeState state fs
  pub mountable : EachStandsForSome (disk_in state fs.base)

-- the store's disk, also after a fault
abbrev pub disk_of_store : {D : Type 0} → Result (StoreView D) (RestartFault × D) → D
disk_of_store (Ok store) = store.disk
disk_of_store (Err fault) = fault.1

-- a commit has failed
abbrev pub is_halted : {D : Type 0} → Base D → Bool
is_halted (Halted broken) = true
is_halted _ = false

-- A halted file system doesn't call its disk: it is the one of before.
abbrev pub LeavesHalted : {D : Type 0} → System D → System D → Type 0
LeavesHalted old new = IsTrue (is_halted old.base) → new.base ≡ old.base
