-- What mkfs makes, and what it refuses.
--     is_out_of, mkfs_refusal        a number out of its range; the first refusal
--     IsNewLayout        the layout of a new disk
--     IsDeviceFault        it failed since the device did
--     IsNewDisk        the image of a new disk
--     HasNoSuperblock, IsHalfCleared, IsHalfDone, IsHalfMade        what a stop may leave meanwhile
--     BehindSuperblock        what the steps may write, and where
--     KeepsBehind, KeepsBesideTables        what a step leaves as it was
--     KeepsRest, KeepsLogAndData        log and data are left as they were
--     HoldsNewTables, IsCleared, IsPrepared        the disk after each step
use Rattle.std.specs.Prelude.{◌≡◌, ◌⊎◌, ℕ, ◌+◌, ◌-◌, ◌<◌, ◌≤◌, Bool, nat_lt, ◌||◌, List, [], length, Option, Some, None, if◌then◌else◌}
use Rattle.sector_disk.specs.Disk.{DiskState, Image, sector, HasFailed, IsImage, IsStable}
use Rattle.fs_layout.specs.declared.geometry.Geometry.{Geometry}
use Rattle.fs_layout.specs.declared.geometry.TheConstants.{FIRST_LOG_SECTOR}
use Rattle.fs_layout.specs.declared.version.Version.{Version}
use Rattle.fs_layout.specs.Version.{max_sectors, max_inodes}
use Rattle.fs_layout.specs.Bytes.{zeros}
use Rattle.fs_layout.specs.Commit.{commit_bytes}
use Rattle.fs_layout.specs.Geometry.{laid_out, the_geometry}
use Rattle.fs_model.specs.NewDisk.{empty_tree, IsNewImage}
use Rattle.fs_model.specs.Stands.{room_of}
use Rattle.fs_images.specs.declared.faults.MkfsFault.{MkfsFault}
use Rattle.fs_images.specs.declared.faults.MkfsFault.TheVariants.{BadSize, BadInodes, TooSmall, DiskFault}
use Rattle.fs_images.specs.NewTables.{IsNewTable}
use Rattle.fs_images.specs.Standing.{StandsFor}

-- less than the least, or more than the most
abbrev pub is_out_of : ℕ → ℕ → ℕ → Bool
is_out_of least most n = nat_lt n least || nat_lt most n

-- the first refusal, in this order: the disk's size, the number of inodes, the data sectors that are left
unfoldable pub mkfs_refusal : Version → ℕ → ℕ → Option MkfsFault
mkfs_refusal version sectors inodes =
    if is_out_of 1024 (max_sectors version) sectors then Some BadSize else
    (if is_out_of 16 (max_inodes version) inodes then Some BadInodes else
    (if nat_lt sectors ((laid_out version sectors inodes).first_data + 64) then Some TooSmall else None))

-- a new disk with these numbers has this layout
abbrev pub IsNewLayout : Geometry → Type 0
IsNewLayout geometry = the_geometry geometry.version geometry.sectors geometry.inodes ≡ Some geometry

-- the device has failed since
abbrev pub IsDeviceFault : DiskState → DiskState → MkfsFault → Type 0
IsDeviceFault before now fault = (fault ≡ DiskFault) × HasFailed before now

-- The image is that of a new disk of this version, with so many inodes: it stands for an empty root, and all its data sectors are free.
pub record IsNewDisk (version : Version) (inodes : ℕ) (image : Image) : Type 0 where
  pub geometry : Geometry
  pub has_geometry : the_geometry version (length image) inodes ≡ Some geometry
  pub new : IsNewImage geometry (sector image)
  pub stands : StandsFor (room_of geometry) image empty_tree (geometry.sectors - geometry.first_data)

-- sector 0 is zero
abbrev pub HasNoSuperblock : Image → Type 0
HasNoSuperblock image = sector image 0 ≡ zeros 512

-- what a stop may leave while the superblock is cleared: what it might have left before, or no superblock
abbrev pub IsHalfCleared : DiskState → Image → Type 0
IsHalfCleared before image = IsImage before image ⊎ HasNoSuperblock image

-- while it is written again: no superblock, or the new disk
abbrev pub IsHalfDone : Version → ℕ → Image → Type 0
IsHalfDone version inodes image = HasNoSuperblock image ⊎ IsNewDisk version inodes image

-- in the whole: what it might have left before, no superblock, or the new disk
abbrev pub IsHalfMade : DiskState → Version → ℕ → Image → Type 0
IsHalfMade before version inodes image = IsImage before image ⊎ IsHalfDone version inodes image

-- ---- what the steps may write, and where
-- any content in any sector but the first
abbrev pub BehindSuperblock : ℕ → List ℕ → Type 0
BehindSuperblock n content = 0 < n

-- ---- what stays as it was
-- each sector but the superblock
abbrev pub KeepsBehind : Image → Image → Type 0
KeepsBehind before now = (n : ℕ) → 0 < n → sector now n ≡ sector before n

-- each sector but those of the bitmaps and the inode table
pub record KeepsBesideTables (p : Geometry) (before now : Image) : Type 0 where
  pub before_tables : (n : ℕ) → n < p.inode_bitmap → sector now n ≡ sector before n
  pub data_sectors : (n : ℕ) → p.first_data ≤ n → sector now n ≡ sector before n

-- each sector of the log, and each data sector
pub record KeepsRest (p : Geometry) (before now : Image) : Type 0 where
  pub log : (n : ℕ) → FIRST_LOG_SECTOR ≤ n → n < p.inode_bitmap → sector now n ≡ sector before n
  pub data_sectors : (n : ℕ) → p.first_data ≤ n → sector now n ≡ sector before n

-- those of the new disk that is made of a disk: where they were zeros, they are zeros
abbrev pub KeepsLogAndData : Version → ℕ → DiskState → DiskState → Type 0
KeepsLogAndData version inodes before now = (p : Geometry) → the_geometry version before.size inodes ≡ Some p → KeepsRest p before.seen now.seen

-- ---- the disk after each step
-- bitmaps and inode table are those of a new disk
abbrev pub HoldsNewTables : Geometry → Image → Type 0
HoldsNewTables p image = (s : ℕ) → p.inode_bitmap ≤ s → s < p.first_data → IsNewTable p s (sector image s)

-- all is stable, and there is no superblock
pub record IsCleared (disk : DiskState) : Type 0 where
  pub room : 0 < disk.size
  pub whole : length disk.seen ≡ disk.size
  pub stable : IsStable disk
  pub cleared : HasNoSuperblock disk.seen

-- that, and all but the superblock is as on a new disk
pub record IsPrepared (p : Geometry) (disk : DiskState) : Type 0 where
  pub has_geometry : the_geometry p.version disk.size p.inodes ≡ Some p
  pub at_rest : IsCleared disk
  pub commit : sector disk.seen 1 ≡ commit_bytes []
  pub tables : HoldsNewTables p disk.seen
