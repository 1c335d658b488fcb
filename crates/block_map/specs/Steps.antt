-- Steps of a change: an inode changes with what it owns, and isn't saved yet.
--     MayChange        an inode that may be changed
--     IsStepSector, HasRoomFor        the sectors that a step puts, and the room for them
--     Alters        what a step leaves alone
--     hole, holes, lacks_pointers        how many sectors a block lacks, blocks lack, and their pointers
--     most_from, most_for, pointer_sectors        how many sectors numbers of a level have, with those by which they are found
--     numbers_on, sectors_to, pointers_to        numbers of a level, one after the other; the sector in which a number stands
--     TakesSector        a sector is taken and written
--     AddsSector, AddsNumbers, AddsPointers        the inode gets a sector of pointers, several of a level, or all that blocks need
--     WritesBlock, WritesBlocks        bytes of one block are written, and of several
--     block_of, FillsSectors, WritesRun        whole blocks are written into sectors that are taken for them
--     blocks_to, taken_by, put_by        the blocks that bytes reach, and the sectors that they take and put
use Rattle.std.specs.Prelude.{◌≡◌, ◌≢◌, ◌⊎◌, ℕ, zero, suc, ◌+◌, ◌*◌, ◌<◌, ◌≤◌, ◌-◌, ◌/◌, nat_eq, nat_lt, if◌then◌else◌, count_by, true, List, [], ◌∷◌, ◌++◌, length, get_or, take, drop}
use Rattle.std.specs.List.{range_with_len}
use Rattle.fs_layout.specs.declared.inode.TheConstants.{DIRECT_BLOCKS, POINTER_LEVELS}
use Rattle.fs_layout.specs.declared.inode.Inode.{Inode}
use Rattle.fs_layout.specs.declared.inode.Kind.TheVariants as kinds
use Rattle.fs_layout.specs.declared.geometry.Geometry.{Geometry}
use Rattle.fs_layout.specs.Bytes.{SectorMap, splice, le32}
use Rattle.fs_layout.specs.Inode.{FitsInode}
use Rattle.fs_layout.specs.Images.{IsData, own_count, holder, number_on, pointer, Holds, free_sectors}
use Rattle.fs_layout.specs.InodeChanges.{Puts, IsOwnedApart, Allocates, ChangesBlocks}
use Rattle.fs_layout.specs.Lacking.{lacks_from, lacks}
use Rattle.sector_txn.specs.Sectors.{TxnState, PutsOnly, lacking}
use Rattle.bit_alloc.specs.Bitmaps.{HasBitmaps}
use Rattle.bit_alloc.specs.Chains.{IsChain}
use Rattle.bit_alloc.specs.Room.{bitmaps}
use Rattle.bit_alloc.specs.Inodes.{KeepsFields, KeepsAcls}

-- a used inode, and what it owns; it need not stand so in the table
pub record MayChange (p : Geometry) (txn : TxnState) (v : Inode) : Type 0 where
  pub bitmaps : HasBitmaps p txn
  pub apart : IsOwnedApart p txn.sectors v
  pub fits : FitsInode v
  pub used : v.kind ≢ kinds.Free

-- a sector of a bitmap, or of the data
abbrev pub IsStepSector : Geometry → ℕ → Type 0
IsStepSector p s = ((p.inode_bitmap ≤ s) × (s < p.table)) ⊎ IsData p s

-- room for these sectors, for the bitmaps, and for so many sectors more
abbrev pub HasRoomFor : Geometry → List ℕ → ℕ → TxnState → Type 0
HasRoomFor p ns more txn = lacking txn (ns ++ bitmaps p) + more ≤ txn.room

-- from old, where the inode is v, to new, where it is w: it has its attributes and ACLs
pub record Alters (p : Geometry) (old new : TxnState) (v w : Inode) : Type 0 where
  pub blocks : ChangesBlocks p v w old.sectors new.sectors
  pub fields : KeepsFields v w
  pub acls : KeepsAcls old.sectors new.sectors v w
  pub bitmaps : HasBitmaps p new
  pub fits : FitsInode w

-- how many sectors number i of a level lacks
abbrev pub lack : SectorMap → Inode → ℕ → ℕ → ℕ
lack image v level i = if nat_eq (number_on image v level i) 0 then 1 else 0

-- and so many numbers from `first` on
abbrev pub lacks_on : SectorMap → Inode → ℕ → ℕ → ℕ → ℕ
lacks_on image v level first count = count_by (λ i. nat_eq (number_on image v level i) 0) (range_with_len first count)

-- how many sectors block k lacks
abbrev pub hole : SectorMap → Inode → ℕ → ℕ
hole image v k = lack image v 0 k

-- how many sectors the blocks from `first` on lack, so many of them
abbrev pub holes : SectorMap → Inode → ℕ → ℕ → ℕ
holes image v first count = lacks_on image v 0 first count

-- how many sectors of pointers the blocks from `first` up to `end` lack
abbrev pub lacks_pointers : SectorMap → Inode → ℕ → ℕ → ℕ
lacks_pointers image v first end =
    if nat_lt DIRECT_BLOCKS end then lacks_from image v POINTER_LEVELS 1 (holder DIRECT_BLOCKS first) (holder DIRECT_BLOCKS (end - 1) + 1) else 0

-- how many sectors a level's numbers from `first` up to `end` are, with those by which they are found, on so many levels
abbrev pub most_from : ℕ → ℕ → ℕ → ℕ → ℕ
most_from zero level first end = 0
most_from (suc more) level first end =
    end - first
    + (if nat_lt (own_count level) end then
    most_from more (suc level) (holder (own_count level) first) (holder (own_count level) (end - 1) + 1) else 0)

abbrev pub most_for : ℕ → ℕ → ℕ → ℕ
most_for level first end = most_from (POINTER_LEVELS + 1 - level) level first end

-- how many sectors of pointers these blocks have, at most
abbrev pub pointer_sectors : ℕ → ℕ → ℕ
pointer_sectors first end =
    if nat_lt DIRECT_BLOCKS end then most_from POINTER_LEVELS 1 (holder DIRECT_BLOCKS first) (holder DIRECT_BLOCKS (end - 1) + 1) else 0

-- so many numbers of a level, from `first` on
abbrev pub numbers_on : SectorMap → Inode → ℕ → ℕ → ℕ → List ℕ
numbers_on image v level first zero = []
numbers_on image v level first (suc count) = number_on image v level first ∷ numbers_on image v level (first + 1) count

-- the sector of pointers that has number i of a level, if that doesn't stand in the inode
abbrev pub sectors_to : SectorMap → Inode → ℕ → ℕ → List ℕ
sectors_to image v level i =
    if nat_lt i (own_count level) then [] else number_on image v (suc level) (holder (own_count level) i) ∷ []

-- so that of block k
abbrev pub pointers_to : SectorMap → Inode → ℕ → List ℕ
pointers_to image v k = sectors_to image v 0 k

-- the sectors of pointers that blocks from `first` up to `end` have
abbrev pub pointers_of : SectorMap → Inode → ℕ → ℕ → List ℕ
pointers_of image v first end =
    if nat_lt DIRECT_BLOCKS end then numbers_on image v 1 (holder DIRECT_BLOCKS first) (holder DIRECT_BLOCKS (end - 1) + 1 - holder DIRECT_BLOCKS first) else []

-- sector n, which was free, is taken, and the content is put there
pub record TakesSector (p : Geometry) (content : List ℕ) (old new : TxnState) (n : ℕ) : Type 0 where
  pub bits : SectorMap
  pub taken : Allocates p n content old.sectors bits new.sectors
  pub free : free_sectors p old.sectors ≡ free_sectors p new.sectors + 1
  pub has : new.has_put n ≡ true
  pub puts : PutsOnly (IsStepSector p) (bitmaps p) 1 old new
  pub tables : HasBitmaps p new

-- Number i of a level of pointers is there. If it wasn't, it is a new sector, of zeros; besides it at most `ns` were put.
pub record AddsSector (p : Geometry) (ns : List ℕ) (level i : ℕ) (old new : TxnState) (v w : Inode) : Type 0 where
  pub alters : Alters p old new v w
  pub puts : PutsOnly (IsStepSector p) (ns ++ bitmaps p) 1 old new
  -- the room that is left, where the sector may be put again
  pub room : old.room + lacking new (number_on new.sectors w level i ∷ (ns ++ bitmaps p)) ≤ new.room + lacking old (ns ++ bitmaps p) + 1
  pub size : w.size ≡ v.size
  pub there : number_on new.sectors w level i ≢ 0
  pub others : (n j : ℕ) → (n ≢ level) ⊎ (j ≢ i) → number_on new.sectors w n j ≡ number_on old.sectors v n j
  pub held : (bytes : List ℕ) → Holds old.sectors v bytes → Holds new.sectors w bytes
  pub free : free_sectors p old.sectors ≤ free_sectors p new.sectors + lack old.sectors v level i

-- a level's numbers from `first` up to `end` are there, and those by which they are found
pub record AddsNumbers (p : Geometry) (level first end : ℕ) (old new : TxnState) (v w : Inode) : Type 0 where
  pub alters : Alters p old new v w
  pub puts : PutsOnly (IsStepSector p) (bitmaps p) (most_for level first end) old new
  -- the room that is left, where they may be put again
  pub room : old.room + lacking new (numbers_on new.sectors w level first (end - first) ++ bitmaps p)
      ≤ new.room + lacking old (bitmaps p) + most_for level first end
  pub size : w.size ≡ v.size
  pub has : (i : ℕ) → first ≤ i → i < end → number_on new.sectors w level i ≢ 0
  pub below : (n i : ℕ) → n < level → number_on new.sectors w n i ≡ number_on old.sectors v n i
  pub others : (i : ℕ) → (i < first) ⊎ (end ≤ i) → number_on new.sectors w level i ≡ number_on old.sectors v level i
  pub held : (bytes : List ℕ) → Holds old.sectors v bytes → Holds new.sectors w bytes
  pub free : free_sectors p old.sectors ≤ free_sectors p new.sectors + lacks_from old.sectors v (POINTER_LEVELS + 1 - level) level first end

-- the inode has the sectors of pointers that the blocks from `first` up to `end` need
pub record AddsPointers (p : Geometry) (first end : ℕ) (old new : TxnState) (v w : Inode) : Type 0 where
  pub alters : Alters p old new v w
  pub puts : PutsOnly (IsStepSector p) (bitmaps p) (pointer_sectors first end) old new
  -- the room that is left, where they may be put again
  pub room : old.room + lacking new (pointers_of new.sectors w first end ++ bitmaps p) ≤ new.room + lacking old (bitmaps p) + pointer_sectors first end
  pub size : w.size ≡ v.size
  pub has : (k : ℕ) → first ≤ k → k < end → DIRECT_BLOCKS ≤ k → number_on new.sectors w 1 (holder DIRECT_BLOCKS k) ≢ 0
  pub same : (k : ℕ) → pointer new.sectors w k ≡ pointer old.sectors v k
  pub held : (bytes : List ℕ) → Holds old.sectors v bytes → Holds new.sectors w bytes
  pub free : free_sectors p old.sectors ≤ free_sectors p new.sectors + lacks_pointers old.sectors v first end

-- the bytes are written into block k, at `at`
pub record WritesBlock (p : Geometry) (k at : ℕ) (x : List ℕ) (old new : TxnState) (v w : Inode) : Type 0 where
  pub alters : Alters p old new v w
  pub puts : PutsOnly (IsStepSector p) (pointers_to old.sectors v k ++ bitmaps p) 1 old new
  pub size : w.size ≡ v.size
  pub pointers : (i : ℕ) → number_on new.sectors w 1 i ≡ number_on old.sectors v 1 i
  pub here : pointer new.sectors w k ≢ 0
  pub others : (j : ℕ) → j ≢ k → pointer new.sectors w j ≡ pointer old.sectors v j
  pub held : (bytes : List ℕ) → Holds old.sectors v bytes → Holds new.sectors w (splice bytes (512 * k + at) x)
  pub free : free_sectors p old.sectors ≤ free_sectors p new.sectors + hole old.sectors v k

-- block i of bytes
abbrev pub block_of : List ℕ → ℕ → List ℕ
block_of x i = take 512 (drop (512 * i) x)

-- So many sectors are written with the blocks of the bytes, one after the other, and their numbers into a sector of pointers, from
-- place `at` on.
pub record FillsSectors (at count : ℕ) (numbers x : List ℕ) (old new : SectorMap) (before after : List ℕ) : Type 0 where
  pub sectors : IsChain (λ i. Puts (get_or numbers i 0) (block_of x i)) 0 count old new
  pub pointers : IsChain (λ i was now. now ≡ splice was (4 * (at + i)) (le32 (get_or numbers i 0))) 0 count before after

-- the bytes are written into so many blocks from k on, which had no sectors
pub record WritesRun (p : Geometry) (k count : ℕ) (x : List ℕ) (old new : TxnState) (v w : Inode) : Type 0 where
  pub alters : Alters p old new v w
  pub puts : PutsOnly (IsStepSector p) (pointers_to old.sectors v k ++ bitmaps p) count old new
  pub size : w.size ≡ v.size
  pub pointers : (i : ℕ) → number_on new.sectors w 1 i ≡ number_on old.sectors v 1 i
  pub here : (j : ℕ) → k ≤ j → j < k + count → pointer new.sectors w j ≢ 0
  pub others : (j : ℕ) → (j < k) ⊎ (k + count ≤ j) → pointer new.sectors w j ≡ pointer old.sectors v j
  pub held : (bytes : List ℕ) → Holds old.sectors v bytes → Holds new.sectors w (splice bytes (512 * k) x)
  pub free : free_sectors p old.sectors ≤ free_sectors p new.sectors + count

-- how many blocks bytes reach that end at `end`, the hole ones too
abbrev pub blocks_to : ℕ → ℕ
blocks_to end = (end + 511) / 512

-- how many sectors bytes take that are written at an offset: one for each hole that they reach, and those for pointers
abbrev pub taken_by : SectorMap → Inode → ℕ → ℕ → ℕ
taken_by image v offset len = lacks image v (offset / 512) (blocks_to (offset + len))

-- how many sectors are put at most, besides bitmaps, where bytes are written at an offset: those of the blocks that they
-- reach, those of the pointers, and the inode's
abbrev pub put_by : ℕ → ℕ → ℕ
put_by offset len =
    blocks_to (offset + len) - offset / 512 + pointer_sectors (offset / 512) (blocks_to (offset + len)) + 1

-- the bytes are written within the size
pub record WritesBlocks (p : Geometry) (offset : ℕ) (x : List ℕ) (old new : TxnState) (v w : Inode) : Type 0 where
  pub alters : Alters p old new v w
  pub puts : PutsOnly (IsStepSector p) (bitmaps p) (blocks_to (offset + length x) - offset / 512 + pointer_sectors (offset / 512) (blocks_to (offset + length x))) old new
  pub size : w.size ≡ v.size
  pub held : (bytes : List ℕ) → Holds old.sectors v bytes → Holds new.sectors w (splice bytes offset x)
  -- where there is no sector there was none, and none of the bytes
  pub hole : (k : ℕ) → pointer new.sectors w k ≡ 0 → (pointer old.sectors v k ≡ 0) × ((512 * k + 512 ≤ offset) ⊎ (offset + length x ≤ 512 * k))
  pub free : free_sectors p old.sectors ≤ free_sectors p new.sectors + taken_by old.sectors v offset (length x)
