-- The sectors of the inode table.
--     IsTableSector        the content of the sector that inode n stands in, if there is such an inode
--     AreFree        the inodes that stand in a sector of the table are free
--     AreInodesBefore        the inodes before some number are read, and good
use Rattle.std.specs.Prelude.{◌≡◌, ℕ, ◌+◌, ◌/◌, ◌<◌, ◌≤◌, List, length, get_or}
use Rattle.fs_layout.specs.declared.geometry.Geometry.{Geometry}
use Rattle.fs_layout.specs.declared.inode.Inode.{Inode}
use Rattle.fs_layout.specs.Bytes.{SectorMap}
use Rattle.fs_layout.specs.Images.{inode_at}
use Rattle.fs_layout.specs.Inode.{free_inode}
use Rattle.fs_model.specs.Rules.{IsGoodInode}

abbrev pub IsTableSector : Geometry → SectorMap → ℕ → List ℕ → Type 0
IsTableSector p m n content = n < p.inodes → content ≡ m (p.table + n / 4)

-- those that stand in sector k of the table are free, and good
abbrev pub AreFree : Geometry → SectorMap → ℕ → Type 0
AreFree p m k = (n : ℕ) → n / 4 ≡ k → (inode_at p m n ≡ free_inode) × IsGoodInode p m n

-- those before number n are in the list, but for free ones at the end, and good
pub record AreInodesBefore (p : Geometry) (m : SectorMap) (n : ℕ) (inodes : List Inode) : Type 0 where
  pub len : length inodes ≤ n
  pub most : length inodes ≤ p.inodes
  pub each : (k : ℕ) → k < n → k < p.inodes → get_or inodes k free_inode ≡ inode_at p m k
  pub good : (k : ℕ) → k < n → k < p.inodes → IsGoodInode p m k
