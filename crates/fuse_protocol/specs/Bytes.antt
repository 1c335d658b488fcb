-- Numbers in the protocol's bytes, the lowest byte first.
--     short_at, word_at, long_at        the number that stands at an offset
--     bytes_of_u16s, bytes_of_u32s, bytes_of_u64s, zeros_of        numbers one after the other; zero bytes
use Rattle.std.specs.Prelude.{ℕ, List, drop, replicate}
use Rattle.std.specs.List.{flat_map}
use Rattle.byteorder.specs.Endian.{little_bytes, little_number}

unfoldable pub short_at : List ℕ → ℕ → ℕ
short_at s at = little_number 2 (drop at s)

unfoldable pub word_at : List ℕ → ℕ → ℕ
word_at s at = little_number 4 (drop at s)

unfoldable pub long_at : List ℕ → ℕ → ℕ
long_at s at = little_number 8 (drop at s)

-- numbers as bytes
unfoldable pub bytes_of_u16s : List ℕ → List ℕ
bytes_of_u16s xs = flat_map (little_bytes 2) xs

unfoldable pub bytes_of_u32s : List ℕ → List ℕ
bytes_of_u32s xs = flat_map (little_bytes 4) xs

unfoldable pub bytes_of_u64s : List ℕ → List ℕ
bytes_of_u64s xs = flat_map (little_bytes 8) xs

abbrev pub zeros_of : ℕ → List ℕ
zeros_of n = replicate n 0
