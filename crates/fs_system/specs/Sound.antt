-- A disk on which calls on bitmaps, inodes and their bytes may begin: our own layout.
--     IsSoundDisk        what it means is sound
use Rattle.std.specs.Prelude.{◌≡◌, ◌≤◌, Some}
use Rattle.sector_disk.specs.Disk.{DiskState}
use Rattle.fs_layout.specs.declared.geometry.Geometry.{Geometry}
use Rattle.fs_layout.specs.Header.{header_of, log_end}
use Rattle.fs_layout.specs.Geometry.{geometry_in}
use Rattle.fs_layout.specs.Ownership.{IsConsistent}
use Rattle.redo_journal.specs.Meaning.{data_of}
use Rattle.bit_alloc.specs.Bitmaps.{HasRestSet}
use Rattle.inode_table.specs.Inodes.{ClearAreFree}

-- After recovery the map of the disk is consistent and lies behind the log, the bits that are no number's are set, and an
-- inode whose bit is clear is free.
pub record IsSoundDisk (p : Geometry) (disk : DiskState) : Type 0 where
  pub has_geometry : geometry_in p.version p.header p.sectors p.inodes ≡ Some p
  pub sectors : p.sectors ≤ disk.size
  pub log : log_end (header_of (data_of disk 0)) ≤ p.inode_bitmap
  pub consistent : IsConsistent p (data_of disk)
  pub rest : HasRestSet p (data_of disk)
  pub clear : ClearAreFree p (data_of disk)
