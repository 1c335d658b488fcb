-- What a change of one inode begins with.
--     IsUsedInode        inode n of a sound disk is used, and this is what the disk has of it
use Rattle.std.specs.Prelude.{◌≡◌, ◌≢◌, ◌<◌, ℕ}
use Rattle.fs_layout.specs.declared.inode.Inode.{Inode}
use Rattle.fs_layout.specs.declared.inode.Kind.TheVariants.{Free}
use Rattle.fs_layout.specs.declared.geometry.Geometry.{Geometry}
use Rattle.fs_layout.specs.Images.{inode_at}
use Rattle.sector_txn.specs.Sectors.{TxnState}
use Rattle.bit_alloc.specs.Inodes.{IsSound}

pub record IsUsedInode (p : Geometry) (txn : TxnState) (n : ℕ) (v : Inode) : Type 0 where
  pub sound : IsSound p txn
  pub below : n < p.inodes
  pub inode : v ≡ inode_at p txn.sectors n
  pub used : v.kind ≢ Free
