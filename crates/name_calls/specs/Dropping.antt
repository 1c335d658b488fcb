-- A name that goes, and what is left of the node that loses it.
--     MayRemove        a name that was found and may be removed
--     MayLoseName        an inode that has a name
--     stays_with, LosesName        it has a name less, or is gone
use Rattle.std.specs.Prelude.{◌≡◌, ℕ, ◌-◌, ◌==◌, ◌<◌, ◌≤◌, Bool, true, false, not, ◌&&◌, ◌||◌}
use Rattle.fs_layout.specs.declared.inode.Inode.{Inode}
use Rattle.fs_layout.specs.declared.inode.Kind.{Kind}
use Rattle.fs_layout.specs.declared.geometry.Geometry.{Geometry}
use Rattle.fs_layout.specs.Images.{inode_at}
use Rattle.sector_txn.specs.Sectors.{TxnState}
use Rattle.bit_alloc.specs.declared.bitmap.Bitmap.TheVariants.{Inodes}
use Rattle.bit_alloc.specs.Bitmaps.{IsNumber}
use Rattle.bit_alloc.specs.Room.{HasSpare}
use Rattle.fs_model.specs.declared.walk.Found.{Found}
use Rattle.fs_model.specs.Summaries.{is_file_kind}
use Rattle.call_parts.specs.Altering.{MayAlter}
use Rattle.call_parts.specs.Dropping.{Drops, Counts}
use Rattle.call_parts.specs.NewNodes.{HasName}
use Rattle.call_parts.specs.UsedInode.{IsUsedInode}

-- the directory has the name that was found, and there is room for its change
pub record MayRemove (p : Geometry) (f : Found) (txn : TxnState) : Type 0 where
  pub ready : MayAlter p 5 txn
  pub below : f.dir_ino < p.inodes
  pub named : HasName p txn.sectors f.dir_ino f.name

-- what has so many names left stays: a file also as long as it is open
abbrev pub stays_with : Kind → ℕ → Bool → Bool
stays_with kind names opened = not (names == 0) || (is_file_kind kind && opened)

-- inode n, this one, has a name, and there is room for what is left of it
pub record MayLoseName (p : Geometry) (txn : TxnState) (n : ℕ) (v : Inode) : Type 0 where
  pub loaded : IsUsedInode p txn n v
  pub number : IsNumber p Inodes n
  pub named : 1 ≤ v.names
  pub spare : HasSpare p 1 txn

-- inode n has a name less, and is gone where it doesn't stay so
pub record LosesName (p : Geometry) (n : ℕ) (opened : Bool) (old new : TxnState) : Type 0 where
  pub stays : stays_with (inode_at p old.sectors n).kind ((inode_at p old.sectors n).names - 1) opened ≡ true
      → Counts p n ((inode_at p old.sectors n).names - 1) old new
  pub goes : stays_with (inode_at p old.sectors n).kind ((inode_at p old.sectors n).names - 1) opened ≡ false → Drops p n old new
