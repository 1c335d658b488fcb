-- What an upgrade leaves, and why a disk is not upgraded.
--     raised        the version that an upgrade ends in
--     IsSuperOf, SaysVersion        what the superblock of an image says
--     StandsRaised, IsHalfUpgraded        what a stop leaves meanwhile
--     IsUpgraded, SyncsAlone        the disk then; that of a disk which had the version before
--     IsUpgradeFault, IsNotUpgraded        the fault for that of a check, and why a disk is not upgraded
use Rattle.std.specs.Prelude.{◌≡◌, ◌≢◌, ◌≤◌, ◌⊎◌, ℕ, Result, OnErr}
use Rattle.sector_disk.specs.Disk.{DiskState, Image, IsImage, IsNarrowed, IsSame, IsStable, HasFailed, OnlyReads, sector}
use Rattle.fs_layout.specs.declared.superblock.Super.{Super}
use Rattle.fs_layout.specs.declared.version.Version.{Version}
use Rattle.fs_layout.specs.declared.version.Version.TheVariants.{One, Two, Three}
use Rattle.fs_layout.specs.Superblock.{super_bytes, FitsSuper}
use Rattle.fs_model.specs.Trees.{Tree, Room}
use Rattle.fs_model.specs.Stands.{room_in}
use Rattle.fs_check.specs.declared.faults.CheckFault.{CheckFault}
use Rattle.fs_check.specs.declared.faults.CheckFault.TheVariants as checks
use Rattle.fs_images.specs.declared.faults.UpgradeFault.{UpgradeFault}
use Rattle.fs_images.specs.declared.faults.UpgradeFault.TheVariants.{NotAFileSystem, Damaged, DiskFault, OutOfMemory}
use Rattle.fs_images.specs.Standing.{StandsFor, StandsForSome, StandsAs, HasFinding}

-- The version that an upgrade ends in. From 2 none leads to 3, whose parts lie elsewhere.
abbrev pub raised : Version → Version
raised One = Two
raised Two = Two
raised Three = Three

-- ---- what the superblock of an image says

pub record IsSuperOf (image : Image) (super : Super) : Type 0 where
  pub is : sector image 0 ≡ super_bytes super
  pub fits : FitsSuper super

abbrev pub SaysVersion : Version → Image → Type 0
SaysVersion version image = (super : Super) × IsSuperOf image super × (super.version ≡ version)

-- ---- what an upgrade leaves

-- What the one stands for, the other stands for too, and its files may be as large as the version allows that an upgrade ends in.
abbrev pub StandsRaised : Image → Image → Type 0
StandsRaised from image =
    (room : Room) (t : Tree) (free : ℕ) → (stands : StandsFor room from t free)
    → StandsFor (room_in (raised stands.super.version) room) image t free

-- what a stop leaves meanwhile: what stands for what an image from before stood for, with the old limit of a file or the new
abbrev pub IsHalfUpgraded : DiskState → Image → Type 0
IsHalfUpgraded before image = (from : Image) × IsImage before from × (StandsAs from image ⊎ StandsRaised from image)

-- The disk stood for a tree, and each image that a stop may leave stands for that, with the limits of the version that the disk has
-- now. All but the superblock reads as it did.
pub record IsUpgraded (version : Version) (before now : DiskState) : Type 0 where
  pub some : StandsForSome before.seen
  pub says : SaysVersion version now.seen
  pub each : (image : Image) → IsImage now image → StandsRaised before.seen image
  pub stable : IsStable now
  pub others : (n : ℕ) → 1 ≤ n → sector now.seen n ≡ sector before.seen n

-- Nothing is written, and where the sync fails all is as it was.
pub record SyncsAlone {T E : Type 0} (before now : DiskState) (result : Result T E) : Type 0 where
  pub narrowed : IsNarrowed before now
  pub failed : OnErr result (IsSame before now)

-- ---- faults

-- a finding of the rule on the superblock is that there is no file system, any other is damage
abbrev pub IsUpgradeFault : CheckFault → UpgradeFault → Type 0
IsUpgradeFault (checks.Found f) fault = ((f.rule ≡ 1) × (fault ≡ NotAFileSystem)) ⊎ ((f.rule ≢ 1) × (fault ≡ Damaged f))
IsUpgradeFault checks.DiskFault fault = fault ≡ DiskFault
IsUpgradeFault checks.OutOfMemory fault = fault ≡ OutOfMemory

-- Why a disk was not upgraded.
abbrev pub IsNotUpgraded : DiskState → DiskState → UpgradeFault → Type 0
IsNotUpgraded before now NotAFileSystem = (at : ℕ) × HasFinding before now 1 at
IsNotUpgraded before now (Damaged f) = HasFinding before now f.rule f.at × (f.rule ≢ 1)
IsNotUpgraded before now DiskFault = HasFailed before now
IsNotUpgraded before now OutOfMemory = OnlyReads before now
