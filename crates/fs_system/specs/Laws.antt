-- The laws of the file system, each the contract of a function.
use Rattle.std.specs.Prelude.{◌≡◌, ℕ, ◌≤◌}
use Rattle.sector_disk.specs.Disk.{DiskState}
use Rattle.fs_layout.specs.declared.geometry.Geometry.{Geometry}
use Rattle.fs_layout.specs.Header.{header_of}
use Rattle.redo_journal.specs.Meaning.{SameMap, data_of}
use Rattle.sector_txn.specs.Stores.{TxnView, txn_state}
use Rattle.bit_alloc.specs.Inodes.{IsSound}
use Rattle.inode_table.specs.Inodes.{ClearAreFree}
use Rattle.fs_model.specs.Trees.{Tree, Room}
use Rattle.fs_images.specs.Standing.{StandsFor}
use Rattle.fs_system.specs.Sound.{IsSoundDisk}

-- A disk that stands for a tree is sound.
abbrev pub TreesAreSound : {D : Type 0} → (D → DiskState) → Type 0
TreesAreSound {D} state =
    (room : Room) (t : Tree) (free : ℕ) (disk : D) → (stands : StandsFor room (state disk).seen t free) → IsSoundDisk stands.geometry (state disk)

-- A transaction that shows what a sound disk means, and has as many header sectors as its map tells, is sound, and an inode
-- whose bit is clear is free.
abbrev pub SoundDisksAreShown : {D : Type 0} → (D → DiskState) → Type 0
SoundDisksAreShown {D} state =
    (p : Geometry) (disk : D) (txn : TxnView D) → IsSoundDisk p (state disk) → SameMap (txn_state state txn).sectors (data_of (state disk))
    → (state disk).size ≤ (state txn.disk).size → (txn_state state txn).header ≡ header_of ((txn_state state txn).sectors 0) → IsSound p (txn_state state txn) × ClearAreFree p (txn_state state txn).sectors
