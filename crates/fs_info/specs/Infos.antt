-- What a disk says of itself, which is only read.
--     clear_bits        how many bits of a bitmap are clear, of so many from one on
--     IsInfoOf, IsInfo        what superblock, commit and bitmaps of an image say, these as recovery would leave them; the same of a disk
--     IsWhyNoInfo        why it says nothing
use Rattle.std.specs.Prelude.{◌≡◌, ℕ, not, count_by}
use Rattle.std.specs.List.{range_with_len}
use Rattle.fs_layout.specs.Bytes.{SectorMap}
use Rattle.fs_layout.specs.Commit.{IsValidCommit}
use Rattle.fs_layout.specs.Images.{bit, free_sectors}
use Rattle.fs_model.specs.Rules.{IsGeometryOf, IsFinding}
use Rattle.fs_model.specs.Summaries.{is_sealed}
use Rattle.fs_model.specs.Stands.{Stands}
use Rattle.fs_model.specs.Trees.{Tree, Room, free_inodes}
use Rattle.sector_disk.specs.Disk.{DiskState, HasFailed, sector}
use Rattle.fs_layout.specs.Recovered.{recovered}
use Rattle.fs_info.specs.declared.faults.InfoFault.{InfoFault}
use Rattle.fs_info.specs.declared.faults.InfoFault.TheVariants.{NotAFileSystem, Damaged, DiskFault}
use Rattle.fs_info.specs.declared.info.Info.{Info}

abbrev pub clear_bits : SectorMap → ℕ → ℕ → ℕ → ℕ
clear_bits image start from count = count_by (λ n. not (bit image start n)) (range_with_len from count)

-- Superblock and commit are valid. What is free is counted by the bits of the bitmaps as recovery would leave them: of data sectors, and
-- of inodes. Where the image stands for a tree, these are the free data sectors and the free inodes of that tree.
pub record IsInfoOf (size : ℕ) (image : SectorMap) (info : Info) : Type 0 where
  pub geometry : IsGeometryOf size image info.geometry
  pub commit : IsValidCommit size image
  pub sectors : info.free_sectors ≡ free_sectors info.geometry (recovered size image)
  pub inodes : info.free_inodes ≡ clear_bits (recovered size image) info.geometry.inode_bitmap 0 info.geometry.inodes
  pub pending : info.pending ≡ is_sealed size image
  pub of_tree : (room : Room) (t : Tree) (free : ℕ) → Stands size image room t free
      → (info.free_sectors ≡ free) × (info.free_inodes ≡ free_inodes room t)

-- what a disk says of itself
abbrev pub IsInfo : DiskState → Info → Type 0
IsInfo disk info = IsInfoOf disk.size (sector disk.seen) info

-- the first rule of the checker fails, or the second; or a read failed
abbrev pub IsWhyNoInfo : DiskState → DiskState → InfoFault → Type 0
IsWhyNoInfo old new NotAFileSystem = IsFinding old.size (sector old.seen) 1 0
IsWhyNoInfo old new (Damaged f) = (f.rule ≡ 2) × IsFinding old.size (sector old.seen) f.rule f.at
IsWhyNoInfo old new DiskFault = HasFailed old new
