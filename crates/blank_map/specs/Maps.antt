-- Maps as the tests make them.
--     IsPlaced        a map on a disk that has the sectors of a layout
--     IsWithoutInodes        one on which no inode is used, and calls may begin
use Rattle.std.specs.Prelude.{◌≡◌, ◌≤◌, ◌<◌, ℕ, false}
use Rattle.fs_layout.specs.declared.geometry.Geometry.{Geometry}
use Rattle.fs_layout.specs.Header.{log_end}
use Rattle.fs_layout.specs.Geometry.{IsGeometry}
use Rattle.fs_layout.specs.Images.{bit, inode_at}
use Rattle.fs_layout.specs.Inode.{free_inode}
use Rattle.sector_txn.specs.Sectors.{TxnState}
use Rattle.bit_alloc.specs.Inodes.{IsSound}
use Rattle.bit_alloc.specs.Room.{HasSpare}

-- the disk has all sectors of the layout, and the log ends before the bitmaps
pub record IsPlaced (p : Geometry) (txn : TxnState) : Type 0 where
  pub geometry : IsGeometry p
  pub disk : p.sectors ≤ txn.disk.size
  pub header : log_end txn.header ≤ p.inode_bitmap

-- no inode is used, and there is room for all bitmaps and 12 sectors
pub record IsWithoutInodes (p : Geometry) (txn : TxnState) : Type 0 where
  pub sound : IsSound p txn
  -- an inode whose bit is clear is free
  pub clear : (n : ℕ) → n < p.inodes → bit txn.sectors p.inode_bitmap n ≡ false → inode_at p txn.sectors n ≡ free_inode
  pub spare : HasSpare p 12 txn
