-- The numbers that a bitmap keeps.
--     first_sector, bit_count        where a bitmap begins, and how many bits it has
--     least, limit, IsNumber        the numbers that it keeps
--     IsFreeNumber, free_numbers        one that is free; how many are
--     sector_of, IsSectorOf        the sector in which a number's bit stands; one of several numbers
--     IsNumberOf        a number of a list
--     Marks        one bit of it is written
--     TakesNumber, GivesNumber        a free number is taken; a number becomes free
--     TakesNumbers        those of a list are taken, one after the other
--     IsMapSector, GivesNumbers        a sector of a bitmap; several numbers become free
--     HasRestSet, HasBitmaps        what is asked of the bitmaps
use Rattle.std.specs.Prelude.{◌≡◌, ◌≢◌, ℕ, ◌+◌, ◌/◌, ◌<◌, ◌≤◌, ◌⊎◌, false, not, IsTrue, List, get_or, count_by}
use Rattle.std.specs.List.{range_with_len}
use Rattle.bit_alloc.specs.declared.bitmap.Bitmap.{Bitmap}
use Rattle.bit_alloc.specs.declared.bitmap.Bitmap.TheVariants.{Inodes, Blocks}
use Rattle.fs_layout.specs.declared.geometry.Geometry.{Geometry}
use Rattle.fs_layout.specs.Bytes.{SectorMap}
use Rattle.fs_layout.specs.Header.{log_end}
use Rattle.fs_layout.specs.Geometry.{IsGeometry}
use Rattle.fs_layout.specs.Images.{HasWholeTables, inode_map_bits, map_bits, bit, free_sectors}
use Rattle.fs_layout.specs.InodeChanges.{IsInodeMap, IsBlockMap, MarksSector, MarksInode}
use Rattle.sector_txn.specs.Sectors.{TxnState}
use Rattle.bit_alloc.specs.Chains.{IsChain}

-- the first sector of the bitmap
abbrev pub first_sector : Geometry → Bitmap → ℕ
first_sector p Inodes = p.inode_bitmap
first_sector p Blocks = p.block_bitmap

-- how many bits it has
abbrev pub bit_count : Geometry → Bitmap → ℕ
bit_count p Inodes = inode_map_bits p
bit_count p Blocks = map_bits p

-- the least number that it keeps
abbrev pub least : Geometry → Bitmap → ℕ
least p Inodes = 1
least p Blocks = p.first_data

-- the end of these numbers
abbrev pub limit : Geometry → Bitmap → ℕ
limit p Inodes = p.inodes
limit p Blocks = p.sectors

-- an inode but for inode 0, which isn't used; a data sector
abbrev pub IsNumber : Geometry → Bitmap → ℕ → Type 0
IsNumber p map n = (least p map ≤ n) × (n < limit p map)

-- one whose bit is clear
abbrev pub IsFreeNumber : Geometry → Bitmap → SectorMap → ℕ → Type 0
IsFreeNumber p map image n = (least p map ≤ n) × (n < limit p map) × (bit image (first_sector p map) n ≡ false)

-- how many inodes, or data sectors, have a clear bit
abbrev pub free_numbers : Geometry → Bitmap → SectorMap → ℕ
free_numbers p Inodes image = count_by (λ n. not (bit image p.inode_bitmap n)) (range_with_len 0 p.inodes)
free_numbers p Blocks image = free_sectors p image

-- the sector in which the bit of n stands
abbrev pub sector_of : Geometry → Bitmap → ℕ → ℕ
sector_of p map n = first_sector p map + n / 4096

-- that of a number with P
pub record IsSectorOf (p : Geometry) (map : Bitmap) (P : ℕ → Type 0) (s : ℕ) : Type 0 where
  pub number : ℕ
  pub has : P number
  pub is : s ≡ sector_of p map number

-- a number that a list has from place `first` on, before place `end`; 0 is none
pub record IsNumberOf (numbers : List ℕ) (first end n : ℕ) : Type 0 where
  pub place : ℕ
  pub from : first ≤ place
  pub before : place < end
  pub is : get_or numbers place 0 ≡ n
  pub some : n ≢ 0

-- of the bitmap no bit but that of n differs, and nothing else does
abbrev pub Marks : Geometry → Bitmap → ℕ → SectorMap → SectorMap → Type 0
Marks p Inodes n old new = MarksInode p n old new
Marks p Blocks n old new = MarksSector p n old new

-- n was free, and its bit is set
pub record TakesNumber (p : Geometry) (map : Bitmap) (n : ℕ) (old new : SectorMap) : Type 0 where
  pub free : IsFreeNumber p map old n
  pub mark : Marks p map n old new
  pub set : IsTrue (bit new (first_sector p map) n)
  -- one number less is free
  pub count : free_numbers p map old ≡ free_numbers p map new + 1

-- the numbers of a list from place `from` on, before place `end`, are taken, one after the other
pub record TakesNumbers (p : Geometry) (map : Bitmap) (numbers : List ℕ) (from end : ℕ) (old new : SectorMap) : Type 0 where
  pub steps : IsChain (λ i. TakesNumber p map (get_or numbers i 0)) from end old new

-- the bit of n is clear
pub record GivesNumber (p : Geometry) (map : Bitmap) (n : ℕ) (old new : SectorMap) : Type 0 where
  pub mark : Marks p map n old new
  pub clear : bit new (first_sector p map) n ≡ false
  -- if n was taken, one number more is free
  pub count : IsTrue (bit old (first_sector p map) n) → free_numbers p map new ≡ free_numbers p map old + 1

-- a sector of the bitmap
abbrev pub IsMapSector : Geometry → Bitmap → ℕ → Type 0
IsMapSector p Inodes s = IsInodeMap p s
IsMapSector p Blocks s = IsBlockMap p s

-- the bits of the numbers with P are clear, the others are as they were, and nothing else differs
pub record GivesNumbers (p : Geometry) (map : Bitmap) (P : ℕ → Type 0) (old new : SectorMap) : Type 0 where
  pub tables : HasWholeTables p new
  pub clear : (n : ℕ) → P n → bit new (first_sector p map) n ≡ false
  pub bits : (n : ℕ) → n < bit_count p map → P n ⊎ (bit new (first_sector p map) n ≡ bit old (first_sector p map) n)
  pub others : (s : ℕ) → (IsMapSector p map s → ⊥) → new s ≡ old s
  -- at least as many are free
  pub count : free_numbers p map old ≤ free_numbers p map new

-- The bits that are no number's are set: that of inode 0, those below the data, and those past the end. So each clear
-- bit is that of a free number.
abbrev pub HasRestSet : Geometry → SectorMap → Type 0
HasRestSet p image =
    (map : Bitmap) (n : ℕ) → n < bit_count p map → (IsNumber p map n → ⊥) → IsTrue (bit image (first_sector p map) n)

-- The transaction shows bitmaps and inode table of this layout. Of inodes, and of what they own, nothing is asked.
pub record HasBitmaps (p : Geometry) (txn : TxnState) : Type 0 where
  pub geometry : IsGeometry p
  pub disk : p.sectors ≤ txn.disk.size
  pub header : log_end txn.header ≤ p.inode_bitmap
  pub tables : HasWholeTables p txn.sectors
  pub rest : HasRestSet p txn.sectors
