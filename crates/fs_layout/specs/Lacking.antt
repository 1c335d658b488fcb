-- How many sectors numbers lack.
--     lacks        those that blocks lack, with the sectors of pointers by which they are found
use Rattle.std.specs.Prelude.{ℕ, zero, suc, ◌+◌, ◌-◌, nat_eq, nat_lt, if◌then◌else◌, count_by}
use Rattle.std.specs.List.{range_with_len}
use Rattle.fs_layout.specs.declared.inode.Inode.{Inode}
use Rattle.fs_layout.specs.declared.inode.TheConstants.{POINTER_LEVELS}
use Rattle.fs_layout.specs.Bytes.{SectorMap}
use Rattle.fs_layout.specs.Images.{own_count, holder, number_on}

-- how many sectors a level's numbers from `first` up to `end` lack, with those by which they are found, on so many levels
abbrev pub lacks_from : SectorMap → Inode → ℕ → ℕ → ℕ → ℕ → ℕ
lacks_from image v zero level first end = 0
lacks_from image v (suc more) level first end =
    count_by (λ i. nat_eq (number_on image v level i) 0) (range_with_len first (end - first))
    + (if nat_lt (own_count level) end then
    lacks_from image v more (suc level) (holder (own_count level) first) (holder (own_count level) (end - 1) + 1) else 0)

-- so many the blocks from `first` up to `end` lack
abbrev pub lacks : SectorMap → Inode → ℕ → ℕ → ℕ
lacks image v first end = lacks_from image v (suc POINTER_LEVELS) 0 first end
