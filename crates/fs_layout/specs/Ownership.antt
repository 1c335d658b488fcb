-- Which inode owns which sector.
--     IsOwned        some inode owns the sector
--     IsConsistent        each inode is valid, no sector has two owners, and the block bitmap says which are owned
--     Agrees        alike where that says something
use Rattle.std.specs.Prelude.{◌≡◌, ℕ, ◌<◌, ◌≤◌, Ok, IsTrue, ◌⊎◌, ◌↔◌}
use Rattle.fs_layout.specs.declared.geometry.Geometry.{Geometry}
use Rattle.fs_layout.specs.Bytes.{SectorMap, IsSector}
use Rattle.fs_layout.specs.Inode.{inode_of}
use Rattle.fs_layout.specs.Geometry.{IsGeometry}
use Rattle.fs_layout.specs.Images.{IsData, HasWholeTables, map_bits, bit, stored, inode_at, Owns}

-- an inode of the disk owns s
pub record IsOwned (p : Geometry) (image : SectorMap) (s : ℕ) : Type 0 where
  pub by : ℕ
  pub below : by < p.inodes
  pub is : Owns image (inode_at p image by) s

-- Each inode is valid, no sector has two owners, and the block bitmap says which sectors are owned.
pub record IsConsistent (p : Geometry) (image : SectorMap) : Type 0 where
  pub geometry : IsGeometry p
  -- bitmaps, inode table, and what inodes own are whole sectors; of the log and of free sectors nothing is asked
  pub sectors : HasWholeTables p image
  pub owned_sectors : (n s : ℕ) → n < p.inodes → Owns image (inode_at p image n) s → IsSector (image s)
  pub valid : (n : ℕ) → n < p.inodes → inode_of (stored p image n) ≡ Ok (inode_at p image n)
  pub in_data : (n s : ℕ) → n < p.inodes → Owns image (inode_at p image n) s → IsData p s
  -- one owner, which has it for one thing
  pub sole : (n m s : ℕ) → n < p.inodes → m < p.inodes → (a : Owns image (inode_at p image n) s)
      → (b : Owns image (inode_at p image m) s) → (n ≡ m) × (a.at ≡ b.at)
  pub block_bits : (s : ℕ) → s < map_bits p
      → IsTrue (bit image p.block_bitmap s) ↔ ((s < p.first_data) ⊎ ((p.sectors ≤ s) ⊎ IsOwned p image s))

-- alike where a consistent image says something: in its tables, and in the data sectors that are used
pub record Agrees (p : Geometry) (old new : SectorMap) : Type 0 where
  pub tables : (s : ℕ) → p.inode_bitmap ≤ s → s < p.first_data → new s ≡ old s
  pub used : (s : ℕ) → IsData p s → IsTrue (bit old p.block_bitmap s) → new s ≡ old s
