-- Times that a call moves, after it has changed the tree.
--     with_times, SavesTimes        an inode with other times; it was saved so
--     AreBelow        inode numbers
--     kept_touches        of these touches those that a disk keeps
--     MovesTime        whatever tree stands there, these times of one inode have moved
--     MayMoveTimes, MovesTimes        what is asked before; and of several inodes
use Rattle.std.specs.Prelude.{◌≡◌, ℕ, ◌<◌, List, [], ◌∷◌, length, if◌then◌else◌}
use Rattle.fs_layout.specs.declared.inode.Inode.{Inode}
use Rattle.fs_layout.specs.declared.geometry.Geometry.{Geometry}
use Rattle.fs_layout.specs.Bytes.{SectorMap}
use Rattle.fs_layout.specs.Images.{bit, inode_at}
use Rattle.fs_layout.specs.Version.{keeps_times}
use Rattle.sector_txn.specs.Sectors.{TxnState, SameStore}
use Rattle.bit_alloc.specs.Inodes.{IsSound, Touches, KeepsBytes, KeepsAcls}
use Rattle.bit_alloc.specs.Room.{HasSpare}
use Rattle.fs_model.specs.declared.reply.Stamps.{Stamps}
use Rattle.fs_model.specs.declared.touch.Touch.{Touch}
use Rattle.fs_model.specs.Stands.{HoldsAll, placed}
use Rattle.fs_model.specs.StoredStamps.{stamps_in}
use Rattle.fs_model.specs.TreeChanges.{touch_at, touch_one, restamped, touched}
use Rattle.fs_model.specs.Trees.{Tree}

abbrev pub with_times : Inode → Stamps → Inode
with_times v x = record v { atime = x.atime; mtime = x.mtime; ctime = x.ctime }

-- some times of inode n have moved, and all else that it had stays
pub record SavesTimes (p : Geometry) (time n : ℕ) (touch : Touch) (old new : TxnState) : Type 0 where
  pub sound : IsSound p new
  pub touches : Touches p n 0 1 old new
  pub saved : inode_at p new.sectors n ≡ with_times (inode_at p old.sectors n) (touch_at time touch (stamps_in (inode_at p old.sectors n)))
  pub bytes : KeepsBytes old.sectors new.sectors (inode_at p old.sectors n) (inode_at p new.sectors n)
  pub acls : KeepsAcls old.sectors new.sectors (inode_at p old.sectors n) (inode_at p new.sectors n)
  pub used : bit new.sectors p.inode_bitmap n ≡ bit old.sectors p.inode_bitmap n

abbrev pub AreBelow : ℕ → List (ℕ × Touch) → Type 0
AreBelow inodes [] = Unit {0}
AreBelow inodes (e ∷ es) = (e.0 < inodes) × AreBelow inodes es

-- all, or none where the disk keeps no times
abbrev pub kept_touches : Geometry → List (ℕ × Touch) → List (ℕ × Touch)
kept_touches p touches = if keeps_times p.version then touches else []

-- of inode n, if it is used
pub record MovesTime (p : Geometry) (time n : ℕ) (touch : Touch) (old new : SectorMap) : Type 0 where
  pub super : new 0 ≡ old 0
  pub held : (t : Tree) → HoldsAll p old (placed t) → HoldsAll p new (placed (restamped (touch_one time (n, touch)) t))

-- each is of an inode, and may put its sector
pub record MayMoveTimes (p : Geometry) (touches : List (ℕ × Touch)) (txn : TxnState) : Type 0 where
  pub sound : IsSound p txn
  pub below : AreBelow p.inodes touches
  pub spare : HasSpare p (length touches) txn

-- The times of the inodes that are used have moved, one after another.
pub record MovesTimes (p : Geometry) (time : ℕ) (touches : List (ℕ × Touch)) (old new : TxnState) : Type 0 where
  pub store : SameStore old new
  pub super : new.sectors 0 ≡ old.sectors 0
  pub held : (t : Tree) → HoldsAll p old.sectors (placed t) → HoldsAll p new.sectors (placed (touched time (kept_touches p touches) t))
