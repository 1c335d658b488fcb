-- What is known of how many bits are clear in each sector of the bitmaps.
--     CountList        the counts of sectors that follow one another
--     count_known        that of one sector
--     TellsClear        each count that is known is that of the map
use Rattle.std.specs.Prelude.{◌≡◌, ℕ, ◌-◌, ◌≤◌, List, Option, None, get_or, nat_lt, if◌then◌else◌, IfSome}
use Rattle.fs_layout.specs.Bytes.{SectorMap}
use Rattle.fs_layout.specs.Header.{log_end}
use Rattle.bit_alloc.specs.Bits.{clear_below}

-- the first sector of which there is a count, and the counts, as far as they are known
pub record CountList : Type 0 where
  pub first : ℕ
  pub counts : List (Option ℕ)

-- what is known of sector n
unfoldable pub count_known : CountList → ℕ → Option ℕ
count_known list n = if nat_lt n list.first then None else get_or list.counts (n - list.first) None

-- Of a disk with so many header sectors: each sector behind the log whose clear bits are known has so many in the map.
abbrev pub TellsClear : ℕ → SectorMap → CountList → Type 0
TellsClear header map list = (n : ℕ) → log_end header ≤ n → IfSome (count_known list n) (λ k. k ≡ clear_below (λ _. map n) 0 4096)
