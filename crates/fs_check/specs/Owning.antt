-- What of an inode's sectors is in the data area, and which sectors of pointers are at hand.
--     AreListed        the content in which numbers of a level stand, if they don't stand in the inode
--     HasLevelInData, HasAboveInData        the numbers of a level are in the data area; those of the levels above
--     OwnsData        all that is owned is
--     AreAtHand        the sectors of pointers at hand
use Rattle.std.specs.Prelude.{◌≡◌, ◌≢◌, ℕ, suc, ◌<◌, ◌≤◌, List, [], get_or}
use Rattle.fs_layout.specs.declared.inode.Inode.{Inode}
use Rattle.fs_layout.specs.declared.geometry.Geometry.{Geometry}
use Rattle.fs_layout.specs.Bytes.{SectorMap}
use Rattle.fs_check.specs.declared.owning.Pointers.{Pointers}
use Rattle.fs_layout.specs.Images.{own_count, holder, number_on, HasPointers, Owns, IsData}

-- ---- numbers of a level

-- the numbers from `first` up to `end` that don't stand in the inode stand in the sector of pointers with this content
abbrev pub AreListed : SectorMap → Inode → List ℕ → ℕ → ℕ → ℕ → Type 0
AreListed m v content level first end = (i : ℕ) → first ≤ i → i < end → own_count level ≤ i
    → HasPointers m v (suc level) (holder (own_count level) i) content

-- each number of a level that is there is in the data area
abbrev pub HasLevelInData : Geometry → SectorMap → Inode → ℕ → Type 0
HasLevelInData p m v level = (i : ℕ) → number_on m v level i ≢ 0 → IsData p (number_on m v level i)

-- the sectors of pointers by which the numbers of a level are found are in the data area
abbrev pub HasAboveInData : Geometry → SectorMap → Inode → ℕ → Type 0
HasAboveInData p m v level = (above : ℕ) → level < above → HasLevelInData p m v above

abbrev pub OwnsData : Geometry → SectorMap → Inode → Type 0
OwnsData p m v = (s : ℕ) → Owns m v s → IsData p s

-- what is at hand of a level is the content of a sector, if one was read
abbrev pub AreAtHand : SectorMap → Pointers → Type 0
AreAtHand m pointers = (level : ℕ) → get_or pointers.sectors level 0 ≢ 0
    → get_or pointers.contents level [] ≡ m (get_or pointers.sectors level 0)
