-- What the loop of `play` keeps: what is served, and how events lead from one to the next.
--     HasDisk, HasDiskOf        the disk of a file system, or of what is served
--     IsConfig        what is served is such a file system, or such a disk
--     MayMount        what a stop leaves may be mounted
--     Plays        some events, one after another
--     IsOfRestart        a fault of the device or of memory
use Rattle.std.specs.Prelude.{◌≡◌, ◌⊎◌, List, Result, Ok, Err}
use Rattle.sector_disk.specs.Disk.{DiskState}
use Rattle.fs_model.specs.declared.event.Event.{Event}
use Rattle.fs_model.specs.declared.event.EventReply.{EventReply}
use Rattle.fs_system.specs.declared.faults.MountFault.{MountFault}
use Rattle.fs_system.specs.declared.faults.MountFault.TheVariants as mounts
use Rattle.fs_system.specs.Histories.{Config, Up, Off, History}
use Rattle.fs_system.specs.declared.base.Base.{Base}
use Rattle.fs_system.specs.declared.base.Base.TheVariants.{Running, Halted, Taken}
use Rattle.fs_system.specs.Seen.{System, IsIn}
use Rattle.fs_images.specs.Standing.{EachStandsForSome}

-- ---- what is served: a file system, or the disk alone

abbrev pub HasDisk : {D : Type 0} → Base D → D → Type 0
HasDisk (Running store) disk = store.disk ≡ disk
HasDisk (Halted broken) disk = broken ≡ disk
HasDisk Taken disk = ⊥

abbrev pub HasDiskOf : {D : Type 0} → Result (System D) D → D → Type 0
HasDiskOf (Ok fs) disk = HasDisk fs.base disk
HasDiskOf (Err alone) disk = alone ≡ disk

abbrev pub IsConfig : {D : Type 0} → (D → DiskState) → Result (System D) D → Config D → Type 0
IsConfig state (Ok fs) (Up s disk) = HasDisk fs.base disk × IsIn state fs s
IsConfig state (Ok fs) (Off disk) = ⊥
IsConfig state (Err alone) (Up s disk) = ⊥
IsConfig state (Err alone) (Off disk) = alone ≡ disk

-- A stop leaves what may be mounted, as it does of every file system.
abbrev pub MayMount : {D : Type 0} → (D → DiskState) → Result (System D) D → Type 0
MayMount state (Ok fs) = Unit {0}
MayMount state (Err alone) = EachStandsForSome (state alone)

-- Whichever configuration was served, the events have these replies, and lead to one that is served then.
abbrev pub Plays : {D : Type 0} → (D → DiskState) → Result (System D) D → List Event → List EventReply → Result (System D) D → Type 0
Plays {D} state old es replies new =
    (c : Config D) → IsConfig state old c → (d : Config D) × IsConfig state new d × History state c es replies d

-- ---- restarts

abbrev pub IsOfRestart : MountFault → Type 0
IsOfRestart fault = (fault ≡ mounts.DiskFault) ⊎ (fault ≡ mounts.OutOfMemory)
