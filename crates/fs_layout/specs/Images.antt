-- Where things lie in an image.
--     inode_map_bits, map_bits        how many bits the inode bitmap and the block bitmap have
--     IsData        a data sector
--     HasWholeTables        the bitmaps and the inode table are whole sectors
--     bit, free_sectors        a bit of a bitmap; how many data sectors are free
--     stored, inode_at        an inode's bytes, and the inode
--     levels, number_on, pointer        the numbers of an inode's sectors, level by level, and those of its blocks
--     level_end, first_block        how many numbers a level has at most; the first block that is found by one
--     Part, part, Owns        the sectors that an inode owns, each by its role
--     HasPointers, HasPointersAbove, number_in        a sector of pointers at hand, that in which a number stands, and a number by it
--     byte_at, IsTrimmed, Holds, HasNoHole        the bytes that an inode holds
use Rattle.std.specs.Prelude.{◌≡◌, ◌≢◌, ℕ, zero, suc, ◌+◌, ◌-◌, ◌*◌, ◌/◌, ◌%◌, ◌<◌, ◌≤◌, Bool, not, nat_eq, nat_lt, List, [], ◌∷◌, get_or, drop, length, count_by, if◌then◌else◌, Result, Ok, Err}
use Rattle.std.specs.Int.{bit_at}
use Rattle.std.specs.List.{range_with_len}
use Rattle.fs_layout.specs.declared.inode.Inode.{Inode}
use Rattle.fs_layout.specs.declared.inode.TheConstants.{INODE_SIZE, DIRECT_BLOCKS, SECTOR_POINTERS, MAX_BLOCKS}
use Rattle.fs_layout.specs.declared.fault.LayoutFault.{LayoutFault}
use Rattle.fs_layout.specs.declared.geometry.Geometry.{Geometry}
use Rattle.fs_layout.specs.declared.geometry.TheConstants.{SECTOR_BITS}
use Rattle.fs_layout.specs.Bytes.{SectorMap, IsSector, window, zeros, u32_of}
use Rattle.fs_layout.specs.Inode.{inode_of, free_inode}

-- the number of bits of the inode bitmap, and of the block bitmap
abbrev pub inode_map_bits : Geometry → ℕ
inode_map_bits p = SECTOR_BITS * (p.block_bitmap - p.inode_bitmap)

abbrev pub map_bits : Geometry → ℕ
map_bits p = SECTOR_BITS * (p.table - p.block_bitmap)

-- a data sector
abbrev pub IsData : Geometry → ℕ → Type 0
IsData p s = (p.first_data ≤ s) × (s < p.sectors)

-- each sector of the bitmaps and of the inode table is whole
abbrev pub HasWholeTables : Geometry → SectorMap → Type 0
HasWholeTables p image = (s : ℕ) → p.inode_bitmap ≤ s → s < p.first_data → IsSector (image s)

-- bit n of the bitmap that begins at a sector
unfoldable pub bit : SectorMap → ℕ → ℕ → Bool
bit image start n = nat_eq (bit_at (get_or (image (start + n / SECTOR_BITS)) (n % SECTOR_BITS / 8) 0) (n % 8)) 1

-- how many data sectors have a clear bit
abbrev pub free_sectors : Geometry → SectorMap → ℕ
free_sectors p image = count_by (λ s. not (bit image p.block_bitmap s)) (range_with_len p.first_data (p.sectors - p.first_data))

-- the bytes of inode n
unfoldable pub stored : Geometry → SectorMap → ℕ → List ℕ
stored p image n = window (image (p.table + n / 4)) (INODE_SIZE * (n % 4)) INODE_SIZE

abbrev pub inode_or_free : Result Inode LayoutFault → Inode
inode_or_free (Ok v) = v
inode_or_free (Err e) = free_inode

-- inode n, a free one where its bytes are none
unfoldable pub inode_at : Geometry → SectorMap → ℕ → Inode
inode_at p image n = inode_or_free (inode_of (stored p image n))

-- ---- the numbers of an inode's sectors, level by level
-- Level 0 are the sectors of its blocks. Each level above are the sectors of pointers that have the numbers of the level
-- below, SECTOR_POINTERS in each. The first numbers of a level stand in the inode itself.

-- number i of a sector of numbers; 0 where there is no such sector
abbrev pub pointer_in : SectorMap → ℕ → ℕ → ℕ
pointer_in image zero i = 0
pointer_in image (suc s) i = u32_of (image (suc s)) (4 * i)

-- how many numbers of a level stand in the inode
abbrev pub own_count : ℕ → ℕ
own_count zero = DIRECT_BLOCKS
own_count (suc level) = 1

-- number i of a level that stands in the inode
abbrev pub own_number : Inode → ℕ → ℕ → ℕ
own_number v zero i = get_or v.direct i 0
own_number v (suc level) i = get_or v.indirect level 0

-- so many of a level stand in the inode, and these
pub record Level : Type 0 where
  pub count : ℕ
  pub number : ℕ → ℕ

abbrev pub level_of : Inode → ℕ → Level
level_of v level = record { count = own_count level; number = own_number v level }

-- the levels of an inode: its blocks, and three of sectors of pointers
abbrev pub levels : Inode → List Level
levels v = level_of v 0 ∷ level_of v 1 ∷ level_of v 2 ∷ level_of v 3 ∷ []

-- where the numbers of a level end
abbrev pub level_end : ℕ → ℕ
level_end zero = MAX_BLOCKS
level_end (suc zero) = 1 + SECTOR_POINTERS + SECTOR_POINTERS * SECTOR_POINTERS
level_end (suc (suc zero)) = 1 + SECTOR_POINTERS
level_end (suc (suc (suc zero))) = 1
level_end (suc (suc (suc (suc level)))) = 0

-- where the other numbers stand, by how many stand in the inode: number i in this sector of the level above, at this place
abbrev pub holder : ℕ → ℕ → ℕ
holder count i = (i - count) / SECTOR_POINTERS

abbrev pub place_in_holder : ℕ → ℕ → ℕ
place_in_holder count i = (i - count) % SECTOR_POINTERS

-- number i of the lowest of these levels; 0 where there is none
abbrev pub number_at : SectorMap → List Level → ℕ → ℕ
number_at image [] i = 0
number_at image (l ∷ above) i =
    if nat_lt i l.count then l.number i else
    pointer_in image (number_at image above (holder l.count i)) (place_in_holder l.count i)

-- number i of a level of an inode; 0 where there is none
unfoldable pub number_on : SectorMap → Inode → ℕ → ℕ → ℕ
number_on image v level i = number_at image (drop level (levels v)) i

-- the sector of block k of an inode; 0 for a hole
abbrev pub pointer : SectorMap → Inode → ℕ → ℕ
pointer image v k = number_on image v 0 k

-- the first block whose number is found by number i of a level
abbrev pub first_block : ℕ → ℕ → ℕ
first_block zero i = i
first_block (suc level) i = first_block level (own_count level + SECTOR_POINTERS * i)

-- the content of such a sector of pointers; zeros where there is none
pub record HasPointers (image : SectorMap) (v : Inode) (level i : ℕ) (content : List ℕ) : Type 0 where
  pub is : number_on image v level i ≢ 0 → content ≡ image (number_on image v level i)
  pub none : number_on image v level i ≡ 0 → content ≡ zeros 512

-- the content of the one in which number i of a level stands, if it doesn't stand in the inode
abbrev pub HasPointersAbove : SectorMap → Inode → ℕ → ℕ → List ℕ → Type 0
HasPointersAbove image v level i content = own_count level ≤ i → HasPointers image v (suc level) (holder (own_count level) i) content

-- number i of a level, by the content of the sector of pointers in which it stands, if it doesn't stand in the inode
unfoldable pub number_in : Inode → ℕ → List ℕ → ℕ → ℕ
number_in v level content i =
    if nat_lt i (own_count level) then own_number v level i else u32_of content (4 * place_in_holder (own_count level) i)

-- what an inode may own a sector for
pub data Part : Type 0 where
  AccessAcl DefaultAcl : Part
  -- number i of a level
  OnLevel : ℕ → ℕ → Part
  deriving Discrete as Part-discrete

-- block k
abbrev pub Block : ℕ → Part
Block k = OnLevel 0 k

-- the sector that an inode has for this; 0 where it has none
unfoldable pub part : SectorMap → Inode → Part → ℕ
part image v AccessAcl = v.acl
part image v DefaultAcl = v.default_acl
part image v (OnLevel level i) = number_on image v level i

-- the inode owns sector s
pub record Owns (image : SectorMap) (v : Inode) (s : ℕ) : Type 0 where
  pub at : Part
  pub is : part image v at ≡ s
  pub some : s ≢ 0

-- a byte of a sector; 0 where there is no such sector
abbrev pub byte_in : SectorMap → ℕ → ℕ → ℕ
byte_in image zero i = 0
byte_in image (suc s) i = get_or (image (suc s)) i 0

-- byte i of what the inode holds; a hole reads as zeros
unfoldable pub byte_at : SectorMap → Inode → ℕ → ℕ
byte_at image v i = byte_in image (pointer image v (i / 512)) (i % 512)

-- past its size an inode has no block, and no sector of pointers by which only such blocks are found
abbrev pub IsTrimmed : SectorMap → Inode → Type 0
IsTrimmed image v = (level i : ℕ) → v.size ≤ 512 * first_block level i → number_on image v level i ≡ 0

-- A file, a directory or a link holds these bytes. The inode has no sector past them, and the rest of its last
-- block is zero.
pub record Holds (image : SectorMap) (v : Inode) (bytes : List ℕ) : Type 0 where
  pub size : v.size ≡ length bytes
  pub byte : (i : ℕ) → byte_at image v i ≡ get_or bytes i 0
  pub trim : IsTrimmed image v

-- each block within the size has a sector
abbrev pub HasNoHole : SectorMap → Inode → Type 0
HasNoHole image v = (k : ℕ) → 512 * k < v.size → pointer image v k ≢ 0
