-- An inode gets another size.
--     HasZeroTail, ClearsTail        the rest of the last block is written with zeros
--     put_to        how many sectors are put for another size
--     Resizes        the size changes, and what is held with it
use Rattle.std.specs.Prelude.{◌≡◌, ℕ, ◌+◌, ◌*◌, ◌/◌, ◌<◌, ◌≤◌, List, length, get_or}
use Rattle.fs_layout.specs.declared.inode.Inode.{Inode}
use Rattle.fs_layout.specs.declared.geometry.Geometry.{Geometry}
use Rattle.fs_layout.specs.Bytes.{resized}
use Rattle.fs_layout.specs.Images.{pointer, Holds, HasNoHole, free_sectors}
use Rattle.sector_txn.specs.Sectors.{TxnState, PutsOnly}
use Rattle.bit_alloc.specs.Room.{bitmaps}
use Rattle.block_map.specs.Drops.{cut_by}
use Rattle.block_map.specs.Steps.{IsStepSector, Alters, blocks_to}

-- the bytes are those up to `size`, with zeros from there to the end of the block, if it goes on there
pub record HasZeroTail (size : ℕ) (bytes then : List ℕ) : Type 0 where
  pub before : (i : ℕ) → i < size → get_or then i 0 ≡ get_or bytes i 0
  pub after : (i : ℕ) → size ≤ i → i < 512 * ((size + 511) / 512) → get_or then i 0 ≡ 0
  pub len : length then ≡ length bytes

-- the bytes from `size` to the end of their block are zeros
pub record ClearsTail (p : Geometry) (size : ℕ) (old new : TxnState) (v : Inode) : Type 0 where
  pub alters : Alters p old new v v
  pub puts : PutsOnly (IsStepSector p) (bitmaps p) 1 old new
  pub pointers : (k : ℕ) → pointer new.sectors v k ≡ pointer old.sectors v k
  pub held : (bytes : List ℕ) → Holds old.sectors v bytes → (then : List ℕ) × Holds new.sectors v then × HasZeroTail size bytes then
  pub free : free_sectors p old.sectors ≤ free_sectors p new.sectors

-- how many sectors are put at most, besides bitmaps, where the inode gets this size: the block that is cut, those of the
-- pointers that are, and the inode's
abbrev pub put_to : ℕ → ℕ
put_to size = 1 + cut_by (blocks_to size) + 1

-- the inode has this size, and holds so many bytes
pub record Resizes (p : Geometry) (size : ℕ) (old new : TxnState) (v w : Inode) : Type 0 where
  pub alters : Alters p old new v w
  pub puts : PutsOnly (IsStepSector p) (bitmaps p) (1 + cut_by (blocks_to size)) old new
  pub held : (bytes : List ℕ) → Holds old.sectors v bytes → Holds new.sectors w (resized bytes size)
  pub whole : HasNoHole old.sectors v → size ≤ v.size → HasNoHole new.sectors w
  pub free : free_sectors p old.sectors ≤ free_sectors p new.sectors
