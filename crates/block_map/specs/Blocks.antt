-- The blocks of an inode, and what is read of it.
--     IsWithin        an inode's sectors can be read
--     IsAtHand, IsLoaded        the sector of pointers at hand; it is the one that has a block's number
--     IsTaken        what is at hand once a sector of pointers is taken
--     IsMadeOfBlock        what was made of a block where it stands
--     IsReadOf        what a read gives
use Rattle.std.specs.Prelude.{◌≡◌, ◌≢◌, ℕ, ◌+◌, ◌-◌, ◌*◌, ◌<◌, ◌≤◌, List, ◌++◌, length, get_or, drop, min}
use Rattle.fs_layout.specs.declared.inode.TheConstants.{DIRECT_BLOCKS}
use Rattle.fs_layout.specs.declared.inode.Inode.{Inode}
use Rattle.fs_layout.specs.Bytes.{SectorMap, window, zeros}
use Rattle.fs_layout.specs.Header.{log_end}
use Rattle.fs_layout.specs.Images.{Owns, byte_at, holder, number_on}
use Rattle.block_map.specs.declared.blocks.Blocks.{Blocks}

-- each sector that the inode owns lies behind the log, on a disk of so many sectors, so many of them header sectors
abbrev pub IsWithin : ℕ → ℕ → SectorMap → Inode → Type 0
IsWithin header size image v = (s : ℕ) → Owns image v s → (log_end header ≤ s) × (s < size)

-- what is at hand is the sector of pointers to blocks with this index: its number, and its content, zeros where there is none
pub record IsAtHand (image : SectorMap) (b : Blocks) : Type 0 where
  pub number : number_on image b.inode 1 b.index ≡ b.sector
  pub is : b.sector ≢ 0 → b.pointers ≡ image b.sector
  pub none : b.sector ≡ 0 → b.pointers ≡ zeros 512

-- and it has the number of block k, if that doesn't stand in the inode
pub record IsLoaded (image : SectorMap) (b : Blocks) (k : ℕ) : Type 0 where
  pub at_hand : IsAtHand image b
  pub index : DIRECT_BLOCKS ≤ k → b.index ≡ holder DIRECT_BLOCKS k

-- what is at hand stays, or where a sector of pointers to blocks is taken that one is, of zeros; the next is sought near it
pub record IsTaken (level i s : ℕ) (old new : Blocks) : Type 0 where
  pub inode : new.inode ≡ old.inode
  pub near : new.near ≡ s
  pub here : level ≡ 1 → (new.index ≡ i) × (new.sector ≡ s) × (new.pointers ≡ zeros 512)
  pub others : level ≢ 1 → (new.index ≡ old.index) × (new.sector ≡ old.sector) × (new.pointers ≡ old.pointers)

-- a value was made of the bytes of block k
pub record IsMadeOfBlock {T : Type 0} (image : SectorMap) (v : Inode) (k : ℕ) (IsMadeOf : List ℕ → T → Type 0) (x : T) : Type 0 where
  pub block : List ℕ
  pub bytes : (i : ℕ) → i < 512 → get_or block i 0 ≡ byte_at image v (512 * k + i)
  pub made : IsMadeOf block x

-- of a list of bytes `count` were read from an offset on into a buffer: as many as it has and as are left
pub record IsReadOf (bytes : List ℕ) (offset : ℕ) (old new : List ℕ) (count : ℕ) : Type 0 where
  pub len : count ≡ min (length old) (length bytes - offset)
  pub content : new ≡ window bytes offset count ++ drop count old
