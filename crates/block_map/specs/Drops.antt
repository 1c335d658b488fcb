-- Sectors are given back.
--     GivesParts        the sectors that the inode has for these parts are given back
--     OwnsOnlyData        what the inode owns is in the data
--     IsFor, IsAmong        a part that serves only blocks from one on; one of several numbers of a level
--     IsFrom        a number of a level from one on
--     first_above, first_on        the first number of the level above, or of any level, that serves only numbers, or blocks, from one on
--     IsCutFrom, CutsSector, sector_above, CutsLevel        the numbers of a sector of pointers from one on become 0; those of a level
--     ClearsNumbers        the inode itself has them no more
--     cut_below, cut_by        how many sectors of pointers are written for that
--     DropsBlocks        blocks are given back, and the inode has them no more
--     emptied        the inode without all that it has for its bytes
use Rattle.std.specs.Prelude.{◌≡◌, ◌≢◌, ℕ, zero, suc, min, ◌+◌, ◌-◌, ◌*◌, ◌<◌, ◌≤◌, false, IsTrue, List, [], length, replicate}
use Rattle.std.specs.Int.{div_ceil}
use Rattle.fs_layout.specs.declared.inode.TheConstants.{DIRECT_BLOCKS, POINTER_LEVELS, SECTOR_POINTERS}
use Rattle.fs_layout.specs.declared.inode.Inode.{Inode}
use Rattle.fs_layout.specs.declared.geometry.Geometry.{Geometry}
use Rattle.fs_layout.specs.Bytes.{SectorMap, IsSector, u32_of}
use Rattle.fs_layout.specs.Images.{IsData, own_count, own_number, holder, place_in_holder, number_on, pointer, first_block, Part, AccessAcl, DefaultAcl, OnLevel, part, Owns, bit, map_bits, free_sectors}
use Rattle.fs_layout.specs.InodeChanges.{IsBlockMap}
use Rattle.sector_txn.specs.Sectors.{TxnState, PutsOnly}
use Rattle.bit_alloc.specs.Bitmaps.{HasBitmaps}
use Rattle.bit_alloc.specs.Room.{bitmaps}
use Rattle.block_map.specs.Steps.{IsStepSector, Alters}

-- the sectors that the inode has for parts with P are given back: their bits are clear, and nothing else differs
pub record GivesParts (p : Geometry) (v : Inode) (P : Part → Type 0) (old new : TxnState) : Type 0 where
  pub tables : HasBitmaps p new
  pub others : (s : ℕ) → (IsBlockMap p s → ⊥) → new.sectors s ≡ old.sectors s
  pub cleared : (at : Part) → P at → part old.sectors v at ≢ 0 → bit new.sectors p.block_bitmap (part old.sectors v at) ≡ false
  pub released : (s : ℕ) → s < map_bits p → IsTrue (bit old.sectors p.block_bitmap s) → bit new.sectors p.block_bitmap s ≡ false
      → (at : Part) × P at × (part old.sectors v at ≡ s) × (s ≢ 0)
  pub set : (s : ℕ) → s < map_bits p → IsTrue (bit new.sectors p.block_bitmap s) → IsTrue (bit old.sectors p.block_bitmap s)
  pub puts : PutsOnly (IsStepSector p) (bitmaps p) 0 old new
  pub free : free_sectors p old.sectors ≤ free_sectors p new.sectors

-- each sector that the inode owns is a data sector
abbrev pub OwnsOnlyData : Geometry → SectorMap → Inode → Type 0
OwnsOnlyData p image v = (s : ℕ) → Owns image v s → IsData p s

-- by this part only blocks from `first` on are found
abbrev pub IsFor : ℕ → Part → Type 0
IsFor first AccessAcl = ⊥
IsFor first DefaultAcl = ⊥
IsFor first (OnLevel level i) = first ≤ first_block level i

-- a number of a level from `first` up to `end`
abbrev pub IsAmong : ℕ → ℕ → ℕ → Part → Type 0
IsAmong level first end at = (i : ℕ) × (at ≡ OnLevel level i) × (first ≤ i) × (i < end)

-- a number of a level from `first` on
abbrev pub IsFrom : ℕ → ℕ → Part → Type 0
IsFrom level first at = (i : ℕ) × (at ≡ OnLevel level i) × (first ≤ i)

-- the first number of the level above by which only numbers of a level from `first` on are found
abbrev pub first_above : ℕ → ℕ → ℕ
first_above level first = div_ceil (first - own_count level) SECTOR_POINTERS

-- the first number of a level by which only blocks from `first` on are found
abbrev pub first_on : ℕ → ℕ → ℕ
first_on zero first = first
first_on (suc level) first = first_above level (first_on level first)

-- of the numbers of a sector of pointers, x, those before `from` are the same, and the others are 0
pub record IsCutFrom (from : ℕ) (x y : List ℕ) : Type 0 where
  pub whole : IsSector y
  pub before : (i : ℕ) → i < from → u32_of y (4 * i) ≡ u32_of x (4 * i)
  pub after : (i : ℕ) → from ≤ i → u32_of y (4 * i) ≡ 0

-- so is it written at s, where there is such a sector, if it keeps some
pub record CutsSector (s from : ℕ) (old new : TxnState) : Type 0 where
  pub puts : PutsOnly (λ t. (t ≡ s) × (s ≢ 0)) [] (min from 1) old new
  pub kept : from ≡ 0 → (t : ℕ) → new.sectors t ≡ old.sectors t
  pub cut : s ≢ 0 → from ≢ 0 → IsCutFrom from (old.sectors s) (new.sectors s)

-- the sector of pointers in which number i of a level stands, if it doesn't stand in the inode
abbrev pub sector_above : SectorMap → Inode → ℕ → ℕ → ℕ
sector_above image v level i = number_on image v (suc level) (holder (own_count level) i)

-- a level's numbers from `first` on become 0 in the sector of pointers that has some before them
abbrev pub CutsLevel : ℕ → ℕ → TxnState → TxnState → Inode → Type 0
CutsLevel level first old new v = CutsSector (sector_above old.sectors v level first) (place_in_holder (own_count level) first) old new

-- of the numbers that stand in the inode those by which only blocks from `first` on are found become 0, and the others stay
pub record ClearsNumbers (first : ℕ) (v w : Inode) : Type 0 where
  pub direct_len : length w.direct ≡ DIRECT_BLOCKS
  pub indirect_len : length w.indirect ≡ POINTER_LEVELS
  pub kept : (level i : ℕ) → i < own_count level → first_block level i < first → own_number w level i ≡ own_number v level i
  pub gone : (level i : ℕ) → i < own_count level → first ≤ first_block level i → own_number w level i ≡ 0
  pub others : w ≡ record v { direct = w.direct; indirect = w.indirect }

-- how many sectors of pointers are written at most, if these are dropped: on each of the first levels the one that keeps some of its
-- numbers
abbrev pub cut_below : ℕ → ℕ → ℕ
cut_below zero first = 0
cut_below (suc level) first = cut_below level first + min (place_in_holder (own_count level) (first_on level first)) 1

abbrev pub cut_by : ℕ → ℕ
cut_by first = cut_below POINTER_LEVELS first

-- The blocks from `first` on are dropped, from v to w, and the sectors of pointers by which only such blocks are found. The
-- other numbers stay, and the other blocks with what is in them.
pub record DropsBlocks (p : Geometry) (first : ℕ) (old new : TxnState) (v w : Inode) : Type 0 where
  pub alters : Alters p old new v w
  pub puts : PutsOnly (IsStepSector p) (bitmaps p) (cut_by first) old new
  pub size : w.size ≡ v.size
  pub dropped : (level i : ℕ) → first ≤ first_block level i → number_on new.sectors w level i ≡ 0
  pub kept : (level i : ℕ) → first_block level i < first → number_on new.sectors w level i ≡ number_on old.sectors v level i
  pub content : (k : ℕ) → k < first → pointer old.sectors v k ≢ 0 → new.sectors (pointer old.sectors v k) ≡ old.sectors (pointer old.sectors v k)
  pub free : free_sectors p old.sectors ≤ free_sectors p new.sectors

-- the inode with nothing in it
abbrev pub emptied : Inode → Inode
emptied v = record v { size = 0; direct = replicate DIRECT_BLOCKS 0; indirect = replicate POINTER_LEVELS 0 }
