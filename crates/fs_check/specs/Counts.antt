-- How often sectors are owned, and what a check marks of it.
--     sum_to        the sum of the first values of a function
--     times_here, times_reached        whether a number is that of a sector, and how often the sector is reached by a number of a level
--     times_named, times_owned, times_owned_before        how often an inode names it itself, owns it, and the inodes before one own it
--     AreInDataArea        all sectors that are counted are in the data area
--     HaveRoom, IsMarked, AreMarks        the marks say how often sectors were counted
--     AddsOwners        marks with so many more
use Rattle.std.specs.Prelude.{◌≡◌, ℕ, zero, suc, ◌+◌, ◌*◌, ◌<◌, ◌≤◌, nat_eq, not, ◌&&◌, [], length, get_or, false, if◌then◌else◌, IsTrue, ◌↔◌, sum_by}
use Rattle.std.specs.List.{range_with_len}
use Rattle.fs_layout.specs.declared.inode.TheConstants.{DIRECT_BLOCKS, POINTER_LEVELS, SECTOR_POINTERS}
use Rattle.fs_layout.specs.declared.inode.Inode.{Inode}
use Rattle.fs_layout.specs.declared.geometry.Geometry.{Geometry}
use Rattle.fs_layout.specs.Bytes.{SectorMap}
use Rattle.fs_layout.specs.Images.{IsData, inode_at, pointer_in}
use Rattle.fs_check.specs.declared.marks.Marks.{Marks}

-- ---- how often

-- f 0 + .. + f (n - 1)
unfoldable pub sum_to : (ℕ → ℕ) → ℕ → ℕ
sum_to f n = sum_by f (range_with_len 0 n)

-- number q is that of sector s; 0 is none
abbrev pub times_here : ℕ → ℕ → ℕ
times_here q s = if nat_eq q s && not (nat_eq q 0) then 1 else 0

-- how often sector s is reached by number q of a level: it is that number, or one that stands in that sector of pointers reaches it
unfoldable pub times_reached : SectorMap → ℕ → ℕ → ℕ → ℕ
times_reached m zero q s = times_here q s
times_reached m (suc level) q s = times_here q s + sum_to (λ i. times_reached m level (pointer_in m q i) s) SECTOR_POINTERS

-- how often it is an ACL of the inode or one of the blocks whose numbers stand in it
abbrev pub times_named : SectorMap → Inode → ℕ → ℕ
times_named m v s = times_reached m 0 v.acl s + times_reached m 0 v.default_acl s + sum_to (λ i. times_reached m 0 (get_or v.direct i 0) s) DIRECT_BLOCKS

-- how often the inode owns it
abbrev pub times_owned : SectorMap → Inode → ℕ → ℕ
times_owned m v s = times_named m v s + sum_to (λ k. times_reached m (k + 1) (get_or v.indirect k 0) s) POINTER_LEVELS

-- how often the inodes before inode n own it
abbrev pub times_owned_before : Geometry → SectorMap → ℕ → ℕ → ℕ
times_owned_before p m n s = sum_to (λ k. times_owned m (inode_at p m k) s) n

-- each sector that is counted is in the data area
abbrev pub AreInDataArea : Geometry → (ℕ → ℕ) → Type 0
AreInDataArea p counts = (s : ℕ) → 1 ≤ counts s → IsData p s

-- ---- marks

-- the tables have a bit for each sector
pub record HaveRoom (size : ℕ) (marks : Marks) : Type 0 where
  pub owned : length marks.owned ≡ size
  pub twice : length marks.twice ≡ size
  pub once : (k : ℕ) → k < POINTER_LEVELS → length (get_or marks.once k []) ≡ size
  pub again : (k : ℕ) → k < POINTER_LEVELS → length (get_or marks.again k []) ≡ size

-- The sectors were counted so often. All that a sector of pointers reaches was counted once or twice, where its level says that.
pub record IsMarked (p : Geometry) (m : SectorMap) (counts : ℕ → ℕ) (marks : Marks) : Type 0 where
  pub room : HaveRoom p.sectors marks
  pub in_data : AreInDataArea p counts
  pub owned : (s : ℕ) → s < p.sectors → IsTrue (get_or marks.owned s false) ↔ (1 ≤ counts s)
  pub twice : (s : ℕ) → s < p.sectors → IsTrue (get_or marks.twice s false) ↔ (2 ≤ counts s)
  pub once : (k q : ℕ) → k < POINTER_LEVELS → IsTrue (get_or (get_or marks.once k []) q false) → (s : ℕ) → times_reached m (k + 1) q s ≤ counts s
  pub again : (k q : ℕ) → k < POINTER_LEVELS → IsTrue (get_or (get_or marks.again k []) q false) → (s : ℕ) → 2 * times_reached m (k + 1) q s ≤ counts s

-- the marks are those of some counts
abbrev pub AreMarks : Geometry → SectorMap → Marks → Type 0
AreMarks p m marks = (counts : ℕ → ℕ) × IsMarked p m counts marks

-- sectors were counted so many more times
abbrev pub AddsOwners : Geometry → SectorMap → (ℕ → ℕ) → Marks → Marks → Type 0
AddsOwners p m more old new = (counts : ℕ → ℕ) → IsMarked p m counts old → IsMarked p m (λ s. counts s + more s) new
