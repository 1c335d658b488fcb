-- The sector of an ACL.
--     IsForAcl        the sectors that storing one may put
--     IsForSaving        those that saving an inode with one may put
--     GivesBack        a sector is given back
--     Stores        content is stored, in the sector that is there or in one that is taken
--     takes_for        how many sectors that takes
use Rattle.std.specs.Prelude.{◌≡◌, ◌≢◌, ℕ, zero, suc, ◌+◌, ◌/◌, ◌<◌, ◌≤◌, List, Option, Some, None, ◌⊎◌}
use Rattle.fs_layout.specs.declared.geometry.Geometry.{Geometry}
use Rattle.fs_layout.specs.Bytes.{SectorMap}
use Rattle.fs_layout.specs.Images.{IsData}
use Rattle.fs_layout.specs.InodeChanges.{Puts}
use Rattle.bit_alloc.specs.declared.bitmap.Bitmap.TheVariants.{Blocks}
use Rattle.bit_alloc.specs.Bitmaps.{TakesNumber, GivesNumber}

-- a sector of a bitmap, or the data sector x, which the ACL has afterwards; where it has none, x is 0 and no data sector
abbrev pub IsForAcl : Geometry → ℕ → ℕ → Type 0
IsForAcl p x s = ((p.inode_bitmap ≤ s) × (s < p.table)) ⊎ (IsData p s × (s ≡ x))

-- one of these, or that of inode n
abbrev pub IsForSaving : Geometry → ℕ → ℕ → ℕ → Type 0
IsForSaving p n x s = (s ≡ p.table + n / 4) ⊎ IsForAcl p x s

-- sector x becomes free; 0 is none, and then nothing changes
abbrev pub GivesBack : Geometry → ℕ → SectorMap → SectorMap → Type 0
GivesBack p x old new = ((x ≡ 0) × ((s : ℕ) → new s ≡ old s)) ⊎ ((x ≢ 0) × GivesNumber p Blocks x old new)

-- Sector y has the content, where x had it before: the same sector, or one that is taken where x is 0. Without content x is
-- given back and y is 0.
abbrev pub Stores : Geometry → ℕ → ℕ → Option (List ℕ) → SectorMap → SectorMap → Type 0
Stores p x y None old new = (y ≡ 0) × GivesBack p x old new
Stores p x y (Some content) old new =
    ((x ≢ 0) × (y ≡ x) × Puts x content old new)
    ⊎ ((x ≡ 0) × ((mid : SectorMap) × TakesNumber p Blocks y old mid × Puts y content mid new))

-- how many sectors content takes where the inode has sector x for it, or 0
abbrev pub takes_for : ℕ → Option (List ℕ) → ℕ
takes_for x None = 0
takes_for zero (Some content) = 1
takes_for (suc x) (Some content) = 0
