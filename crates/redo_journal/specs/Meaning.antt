-- What an image means: the map of sectors that it reads as after recovery.
--     IsMapped, SameMap        the sectors of that map
--     HasLayout, IsSpare, SameUsed        a data sector that is free in it, and maps that agree elsewhere
--     data_of        the map of a disk
--     HasValidCommit        an image whose commit sector is valid
--     ReadsAs, ReadsBut, IsEither        an image that means a map; one that means it but for some sectors; and one that means one of two
--     EachReadsAs        a disk of which a stop leaves only what means a map
--     LeavesSameMap, LeavesMapBut, LeavesAllOrNone        what a stop leaves at any moment of a step of a commit
--     MeansAs, MeansUsed, MeansAsBefore        an image that means what another one does, or does so in the sectors in use
--     LeavesUsedOr        what a stop leaves while sectors are written to their places
--     disk_of        the device in what a step of a commit gives
use Rattle.std.specs.Prelude.{ℕ, ◌≡◌, ◌≤◌, ◌⊎◌, ◌↔◌, List, length, Some, Result, Ok, Err}
use Rattle.fs_layout.specs.declared.geometry.Geometry.{Geometry}
use Rattle.fs_layout.specs.declared.superblock.Super.{Super}
use Rattle.fs_layout.specs.Bytes.{SectorMap}
use Rattle.fs_layout.specs.Superblock.{super_bytes, FitsSuper}
use Rattle.fs_layout.specs.Geometry.{geometry_in}
use Rattle.fs_layout.specs.InodeChanges.{IsFree}
use Rattle.fs_layout.specs.Commit.{IsValidCommit}
use Rattle.fs_layout.specs.Header.{header_of, log_end}
use Rattle.fs_layout.specs.Recovered.{recovered}
use Rattle.sector_disk.specs.Disk.{DiskState, Image, sector, IsImage, LeavesOnly}
use Rattle.redo_journal.specs.Batch.{Entry, with_batch}

-- with so many header sectors: sector 0, and those behind the log
abbrev pub IsMapped : ℕ → ℕ → Type 0
IsMapped header n = (n ≡ 0) ⊎ (log_end header ≤ n)

-- two maps that agree on these, where sector 0 tells how many header sectors there are
abbrev pub SameMap : SectorMap → SectorMap → Type 0
SameMap left right = (n : ℕ) → IsMapped (header_of (right 0)) n → left n ≡ right n

-- the layout that sector 0 of a map tells of
pub record HasLayout (map : SectorMap) (p : Geometry) : Type 0 where
  pub super : Super
  pub is : map 0 ≡ super_bytes super
  pub fits : FitsSuper super
  pub has : geometry_in super.version super.header super.sectors super.inodes ≡ Some p

-- a data sector that is free there
abbrev pub IsSpare : SectorMap → ℕ → Type 0
IsSpare map n = (p : Geometry) × HasLayout map p × IsFree p map n

-- two maps that agree on these, but for sectors that are free in the second
abbrev pub SameUsed : SectorMap → SectorMap → Type 0
SameUsed left right = (n : ℕ) → IsMapped (header_of (right 0)) n → (IsSpare right n → ⊥) → left n ≡ right n

-- the map that a disk reads as after recovery
abbrev pub data_of : DiskState → SectorMap
data_of disk = recovered disk.size (sector disk.seen)

-- the commit of an image of so many sectors is valid
abbrev pub HasValidCommit : ℕ → Image → Type 0
HasValidCommit size image = IsValidCommit size (sector image)

-- on a disk of so many sectors the image has a valid commit sector, and after recovery it reads as this map
pub record ReadsAs (size : ℕ) (sectors : SectorMap) (image : Image) : Type 0 where
  pub whole : length image ≡ size
  pub commit : HasValidCommit size image
  pub reads : SameMap (recovered size (sector image)) sectors

-- the same of an image that may differ from the map in sectors with F
pub record ReadsBut (F : ℕ → Type 0) (size : ℕ) (sectors : SectorMap) (image : Image) : Type 0 where
  pub whole : length image ≡ size
  pub commit : HasValidCommit size image
  pub reads : (n : ℕ) → IsMapped (header_of (sectors 0)) n → (F n → ⊥) → recovered size (sector image) n ≡ sectors n

-- the image reads as the first map, or as the second
abbrev pub IsEither : ℕ → SectorMap → SectorMap → Image → Type 0
IsEither size before after image = ReadsAs size before image ⊎ ReadsAs size after image

-- a stop leaves only what reads as the map
abbrev pub EachReadsAs : SectorMap → DiskState → Type 0
EachReadsAs sectors disk = (image : Image) → IsImage disk image → ReadsAs disk.size sectors image

-- a stop at any moment since old leaves what reads as old does
abbrev pub LeavesSameMap : DiskState → DiskState → Type 0
LeavesSameMap old new = LeavesOnly old new (ReadsAs old.size (data_of old))

-- a stop at any moment since old leaves what reads as old does, but for sectors with F
abbrev pub LeavesMapBut : (ℕ → Type 0) → DiskState → DiskState → Type 0
LeavesMapBut F old new = LeavesOnly old new (ReadsBut F old.size (data_of old))

-- a stop at any moment since old leaves what reads as old does, or as that with the whole batch
abbrev pub LeavesAllOrNone : List Entry → DiskState → DiskState → Type 0
LeavesAllOrNone entries old new = LeavesOnly old new (IsEither old.size (data_of old) (with_batch entries (data_of old)))

-- on a disk of so many sectors the image's commit sector is valid exactly where that of the other image is, and
-- after recovery both read as the same map
pub record MeansAs (size : ℕ) (from image : Image) : Type 0 where
  pub whole : length image ≡ size
  pub commit : HasValidCommit size from ↔ HasValidCommit size image
  pub reads : SameMap (recovered size (sector image)) (recovered size (sector from))

-- the same but for sectors that are free in what the other image reads as
pub record MeansUsed (size : ℕ) (from image : Image) : Type 0 where
  pub whole : length image ≡ size
  pub commit : HasValidCommit size from ↔ HasValidCommit size image
  pub reads : SameUsed (recovered size (sector image)) (recovered size (sector from))

-- a stop at any moment since old leaves what means as old shows, but in free sectors, or reads as this map
abbrev pub LeavesUsedOr : SectorMap → DiskState → DiskState → Type 0
LeavesUsedOr sectors old new = LeavesOnly old new (λ image. MeansUsed old.size old.seen image ⊎ ReadsAs old.size sectors image)

-- a stop might have left, before, an image that means what this one does
abbrev pub MeansAsBefore : DiskState → Image → Type 0
MeansAsBefore old image = (from : Image) × IsImage old from × MeansAs old.size from image

-- the device, also after a fault
abbrev pub disk_of : {D : Type 0} → Result D D → D
disk_of (Ok disk) = disk
disk_of (Err disk) = disk

abbrev pub disk_opened : {D F : Type 0} → Result D (F × D) → D
disk_opened (Ok disk) = disk
disk_opened (Err fault) = fault.1
