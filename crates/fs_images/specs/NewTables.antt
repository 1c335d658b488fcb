-- What the bitmaps and the inode table of a new disk hold, sector by sector: our own layout.
--     bit_of        a bit of one sector
--     is_outside, IsBitmap        a sector of a bitmap, in which the bits of numbers outside a range are set
--     root_table        the sector of the table with the root
--     IsNewTable        the content of each of these sectors
use Rattle.std.specs.Prelude.{◌≡◌, ℕ, ◌+◌, ◌-◌, ◌*◌, ◌<◌, ◌≤◌, Bool, nat_lt, nat_le, ◌||◌, List}
use Rattle.fs_layout.specs.declared.geometry.Geometry.{Geometry}
use Rattle.fs_layout.specs.Bytes.{IsSector, splice, zeros}
use Rattle.fs_layout.specs.Inode.{inode_bytes}
use Rattle.fs_layout.specs.Images.{bit}
use Rattle.fs_model.specs.NewDisk.{root_inode}

-- bit k of a sector, taken by itself
abbrev pub bit_of : List ℕ → ℕ → Bool
bit_of content k = bit (λ s. content) 0 k

-- below the one, or from the other on
abbrev pub is_outside : ℕ → ℕ → ℕ → Bool
is_outside low high n = nat_lt n low || nat_le high n

-- The first of the sector's bits is that of the number `first`. Of numbers outside the range the bits are set.
pub record IsBitmap (first low high : ℕ) (content : List ℕ) : Type 0 where
  pub whole : IsSector content
  pub bits : (k : ℕ) → k < 4096 → bit_of content k ≡ is_outside low high (first + k)

-- the root is inode 1, and inodes 0, 2 and 3 are free
unfoldable pub root_table : List ℕ
root_table = splice (zeros 512) 128 (inode_bytes root_inode)

-- The content of sector s, from the bitmaps to the end of the inode table. Inode 0 isn't used, and inode 1 is the root;
-- the slots past the last inode are zero.
pub record IsNewTable (p : Geometry) (s : ℕ) (content : List ℕ) : Type 0 where
  pub inodes : p.inode_bitmap ≤ s → s < p.block_bitmap → IsBitmap (4096 * (s - p.inode_bitmap)) 2 p.inodes content
  pub sectors : p.block_bitmap ≤ s → s < p.table → IsBitmap (4096 * (s - p.block_bitmap)) p.first_data p.sectors content
  pub root : s ≡ p.table → content ≡ root_table
  pub others : p.table < s → content ≡ zeros 512
