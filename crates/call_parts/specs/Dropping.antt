-- What is left of an inode that loses a name or a descriptor, and of its directory.
--     Drops        it is gone
--     LeavesInode        it is as it was, or gone
--     Counts        it has another count of names
--     RemovesName        a name goes from its directory
use Rattle.std.specs.Prelude.{◌≡◌, ◌≢◌, ℕ, Bool, true, false, List}
use Rattle.fs_layout.specs.declared.inode.Kind.TheVariants as kinds
use Rattle.fs_layout.specs.declared.geometry.Geometry.{Geometry}
use Rattle.fs_layout.specs.Inode.{free_inode}
use Rattle.fs_layout.specs.Images.{bit, inode_at}
use Rattle.sector_txn.specs.Sectors.{TxnState, IsUnchanged}
use Rattle.bit_alloc.specs.Inodes.{IsSound, Touches, KeepsAcls, KeepsBytes}
use Rattle.fs_layout.specs.Maps.{name_cmp, without}
use Rattle.call_parts.specs.Given.{ChangesNames}

-- inode n is free, and so are the sectors that it owned
pub record Drops (p : Geometry) (n : ℕ) (old new : TxnState) : Type 0 where
  pub sound : IsSound p new
  pub touches : Touches p n 0 1 old new
  pub free : inode_at p new.sectors n ≡ free_inode
  pub clear : bit new.sectors p.inode_bitmap n ≡ false

-- Inode n is as it was where it stays open, where it has a name, and where it was free before. Else it is gone.
pub data LeavesInode (p : Geometry) (n : ℕ) (opened : Bool) (old new : TxnState) : Type 0 where
  stays_open : opened ≡ true → IsUnchanged old new → LeavesInode p n opened old new
  has_name : (inode_at p old.sectors n).names ≢ 0 → IsUnchanged old new → LeavesInode p n opened old new
  was_free : (inode_at p old.sectors n).kind ≡ kinds.Free → IsUnchanged old new → LeavesInode p n opened old new
  goes : opened ≡ false → (inode_at p old.sectors n).names ≡ 0 → (inode_at p old.sectors n).kind ≢ kinds.Free → Drops p n old new
      → LeavesInode p n opened old new

-- inode n has this count of names, and all else that it had
pub record Counts (p : Geometry) (n names : ℕ) (old new : TxnState) : Type 0 where
  pub sound : IsSound p new
  pub touches : Touches p n 0 1 old new
  pub saved : inode_at p new.sectors n ≡ record (inode_at p old.sectors n) { names = names }
  pub bytes : KeepsBytes old.sectors new.sectors (inode_at p old.sectors n) (inode_at p new.sectors n)
  pub acls : KeepsAcls old.sectors new.sectors (inode_at p old.sectors n) (inode_at p new.sectors n)
  pub used : bit new.sectors p.inode_bitmap n ≡ bit old.sectors p.inode_bitmap n

-- directory dir has all its names but this one
pub record RemovesName (p : Geometry) (dir_ino : ℕ) (name : List ℕ) (old new : TxnState) : Type 0 where
  pub sound : IsSound p new
  pub touches : Touches p dir_ino 0 5 old new
  pub names : ChangesNames p dir_ino (λ names. without name_cmp names name) old.sectors new.sectors
