-- The directories of these tests.
--     IsStoredDirectory        one that stands in the table, with its names
use Rattle.std.specs.Prelude.{◌≡◌, ◌<◌, ℕ, List}
use Rattle.fs_layout.specs.declared.inode.Inode.{Inode}
use Rattle.fs_layout.specs.declared.geometry.Geometry.{Geometry}
use Rattle.fs_layout.specs.Images.{inode_at}
use Rattle.fs_layout.specs.Directories.{HasNames}
use Rattle.sector_txn.specs.Sectors.{TxnState}
use Rattle.bit_alloc.specs.Inodes.{IsSound}

-- inode n of a sound map is v, which has names
pub record IsStoredDirectory (p : Geometry) (txn : TxnState) (n : ℕ) (v : Inode) : Type 0 where
  pub sound : IsSound p txn
  pub below : n < p.inodes
  pub there : v ≡ inode_at p txn.sectors n
  pub names : (names : List (List ℕ × ℕ)) × HasNames p.version txn.sectors v names
