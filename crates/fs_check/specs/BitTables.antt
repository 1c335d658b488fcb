-- Tables of bits, in bytes as a bitmap of a disk has them.
--     bit_in        bit n of some bytes
--     bits_of        the first bits
--     IsBitTable        the bytes have room for so many bits, of which so many are clear
use Rattle.std.specs.Prelude.{◌≡◌, ℕ, ◌*◌, ◌/◌, ◌%◌, ◌≤◌, nat_eq, Bool, not, List, length, get_or, map, count_by}
use Rattle.std.specs.Int.{bit_at}
use Rattle.std.specs.List.{range_with_len}

abbrev pub bit_in : List ℕ → ℕ → Bool
bit_in bytes n = nat_eq (bit_at (get_or bytes (n / 8) 0) (n % 8)) 1

unfoldable pub bits_of : ℕ → List ℕ → List Bool
bits_of size bytes = map (bit_in bytes) (range_with_len 0 size)

pub record IsBitTable (size clear : ℕ) (bytes : List ℕ) : Type 0 where
  pub room : size ≤ 8 * length bytes
  pub counted : clear ≡ count_by not (bits_of size bytes)
