-- Laws that functions without a body prove, of whatever shows a transaction's state: how calls on inodes go together.
--     StaysSound        a sound map stays sound
--     CallsJoin        two calls on one inode are one
--     BeginsSound        what a consistent map lacks to be sound
--     LeavesSpare, BeginsWithSpare        the room that calls leave, and the room at the start
--     KeepsFree        inodes are taken and given back without a sector
use Rattle.std.specs.Prelude.{◌≡◌, ℕ, ◌+◌, ◌<◌, ◌≤◌, ◌⊎◌, IsTrue}
use Rattle.fs_layout.specs.declared.geometry.Geometry.{Geometry}
use Rattle.fs_layout.specs.Bytes.{SectorMap}
use Rattle.fs_layout.specs.Geometry.{IsGeometry}
use Rattle.fs_layout.specs.Images.{inode_map_bits, bit, free_sectors}
use Rattle.fs_layout.specs.Ownership.{IsConsistent}
use Rattle.fs_layout.specs.InodeChanges.{MarksInode}
use Rattle.fs_layout.specs.Header.{max_delta, log_end}
use Rattle.sector_txn.specs.Sectors.{TxnState}
use Rattle.bit_alloc.specs.declared.bitmap.Bitmap.TheVariants.{Inodes}
use Rattle.bit_alloc.specs.Bitmaps.{IsNumber}
use Rattle.bit_alloc.specs.Inodes.{IsSound, Touches}
use Rattle.bit_alloc.specs.Room.{HasSpare}

-- a call on one inode leaves a sound map sound
abbrev pub StaysSound : {T : Type 0} → (T → TxnState) → Type 0
StaysSound {T} state =
    (p : Geometry) (n taken more : ℕ) (old new : T) → IsSound p (state old) → IsNumber p Inodes n
    → Touches p n taken more (state old) (state new) → IsSound p (state new)

-- two calls on one inode touch it as one
abbrev pub CallsJoin : {T : Type 0} → (T → TxnState) → Type 0
CallsJoin {T} state =
    (p : Geometry) (n a b j k : ℕ) (old mid new : T) → IsGeometry p → Touches p n a j (state old) (state mid)
    → Touches p n b k (state mid) (state new) → Touches p n (a + b) (j + k) (state old) (state new)

-- A consistent map is sound on a disk that has all its sectors, where the bits of inode 0 and of those past the last
-- one are set.
abbrev pub BeginsSound : {T : Type 0} → (T → TxnState) → Type 0
BeginsSound {T} state =
    (p : Geometry) (txn : T) → IsConsistent p (state txn).sectors → p.sectors ≤ (state txn).disk.size → log_end (state txn).header ≤ p.inode_bitmap
    → ((n : ℕ) → n < inode_map_bits p → (n ≡ 0) ⊎ (p.inodes ≤ n) → IsTrue (bit (state txn).sectors p.inode_bitmap n))
    → IsSound p (state txn)

-- what puts leave of the room besides the bitmaps
abbrev pub LeavesSpare : {T : Type 0} → (T → TxnState) → Type 0
LeavesSpare {T} state =
    (p : Geometry) (n taken more rest : ℕ) (old new : T) → HasSpare p (rest + more) (state old)
    → Touches p n taken more (state old) (state new) → HasSpare p rest (state new)

-- where all sectors can be put that a call may on a disk of this layout, 47 can be besides those of the bitmaps
abbrev pub BeginsWithSpare : {T : Type 0} → (T → TxnState) → Type 0
BeginsWithSpare {T} state =
    (p : Geometry) (txn : T) → IsGeometry p → (state txn).room ≡ max_delta p.header → HasSpare p 47 (state txn)

-- the bit of an inode says nothing of sectors
abbrev pub KeepsFree : Type 0
KeepsFree = (p : Geometry) (n : ℕ) (old new : SectorMap) → MarksInode p n old new → free_sectors p new ≡ free_sectors p old
