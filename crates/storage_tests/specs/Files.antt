-- A file that a test reads before it calls.
--     IsFileRead        what is known of it, and of the map then
use Rattle.std.specs.Prelude.{◌≡◌, ℕ}
use Rattle.fs_layout.specs.declared.inode.Inode.{Inode}
use Rattle.fs_layout.specs.declared.inode.Kind.TheVariants.{File}
use Rattle.fs_layout.specs.declared.geometry.Geometry.{Geometry}
use Rattle.fs_layout.specs.Inode.{FitsInode}
use Rattle.fs_layout.specs.Images.{inode_at}
use Rattle.sector_txn.specs.Sectors.{TxnState, IsUnchanged}
use Rattle.bit_alloc.specs.Inodes.{IsSound}
use Rattle.bit_alloc.specs.Room.{HasSpare}
use Rattle.inode_table.specs.Inodes.{DiffersInAttributes}

-- inode n, a file, was read, and there is room for `more` sectors besides the bitmaps
pub record IsFileRead (p : Geometry) (n more : ℕ) (old new : TxnState) (v : Inode) : Type 0 where
  pub sound : IsSound p new
  pub found : v ≡ inode_at p new.sectors n
  pub attributes : DiffersInAttributes (inode_at p new.sectors n) v
  pub fits : FitsInode v
  pub kind : v.kind ≡ File
  pub spare : HasSpare p more new
  pub same : IsUnchanged old new
