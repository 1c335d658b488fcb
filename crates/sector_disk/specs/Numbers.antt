-- Lists of numbers of which most are zeros: 1,024 neighbours are a block, and a block of zeros need not be stored of its own.
--     place_of        where a number stands among those that are stored
--     stored_number, stored_numbers        the numbers that the blocks stand for
--     IsSparse        the first block that is stored is zeros, and each other is that of one block alone
--     IsRow        numbers that count up
use Rattle.std.specs.Prelude.{◌≡◌, ◌≢◌, ℕ, ◌+◌, ◌*◌, ◌/◌, ◌%◌, ◌^◌, ◌<◌, ◌≤◌, List, length, map, get_or}
use Rattle.std.specs.List.{range_with_len}

-- behind the blocks that are stored before its own
abbrev pub place_of : List ℕ → ℕ → ℕ
place_of blocks n = get_or blocks (n / 1024) 0 * 1024 + n % 1024

-- the number n
abbrev pub stored_number : List ℕ → List ℕ → ℕ → ℕ
stored_number blocks stored n = get_or stored (place_of blocks n) 0

-- so many numbers
abbrev pub stored_numbers : ℕ → List ℕ → List ℕ → List ℕ
stored_numbers count blocks stored = map (stored_number blocks stored) (range_with_len 0 count)

-- Each number has a block, and each block is stored. That of zeros may be many blocks', and no other is that of two.
pub record IsSparse (count : ℕ) (blocks stored : List ℕ) : Type 0 where
  pub few : count < 2 ^ 32
  pub room : count ≤ length blocks * 1024
  pub whole : length stored % 1024 ≡ 0
  pub zeros : (i : ℕ) → i < 1024 → get_or stored i 0 ≡ 0
  pub stands : (b : ℕ) → b < length blocks → get_or blocks b 0 * 1024 + 1024 ≤ length stored
  pub alone : (a b : ℕ) → a < length blocks → b < length blocks → get_or blocks a 0 ≢ 0 → get_or blocks a 0 ≡ get_or blocks b 0 → a ≡ b

-- Each of these numbers is one more than that before it, and the first is `start`.
abbrev pub IsRow : ℕ → List ℕ → Type 0
IsRow start numbers = (k : ℕ) → k < length numbers → get_or numbers k 0 ≡ start + k
