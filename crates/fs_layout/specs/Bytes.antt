-- Bytes in a sector.
--     IsBytes, IsSector        each is below 256; and there are 512 of them
--     SectorMap        an image: what each sector holds, by its number
--     window, splice        a part of a list, and a write into it
--     le16, le32, le64, le32s, zeros        numbers as bytes, the lowest byte first
--     resized, overwritten        bytes cut or made longer; bytes with others written over them
--     u16_of, u32_of, u64_of, u32s_of, are_zero        the numbers that stand at an offset
use Rattle.std.specs.Prelude.{ℕ, zero, suc, ◌+◌, ◌<◌, ◌≡◌, List, [], ◌∷◌, ◌++◌, length, take, drop, replicate, get_or, Bool, nat_eq, ◌-◌}
use Rattle.std.specs.List.{flat_map, list_all}
use Rattle.byteorder.specs.Endian.{little_bytes, little_number}

abbrev pub IsBytes : List ℕ → Type 0
IsBytes s = (i : ℕ) → get_or s i 0 < 256

-- a sector's content
pub record IsSector (s : List ℕ) : Type 0 where
  pub len : length s ≡ 512
  pub bytes : IsBytes s

-- an image: what each sector holds, by its number
abbrev pub SectorMap : Type 0
SectorMap = ℕ → List ℕ

-- the n bytes from an offset
abbrev pub window : List ℕ → ℕ → ℕ → List ℕ
window s at n = take n (drop at s)

-- s with bytes written at an offset, and no other byte changed
unfoldable pub splice : List ℕ → ℕ → List ℕ → List ℕ
splice s at bytes = take at s ++ (bytes ++ drop (at + length bytes) s)

-- the bytes cut, or made longer by zeros
abbrev pub resized : List ℕ → ℕ → List ℕ
resized bytes size = take size bytes ++ replicate (size - length bytes) 0

-- the bytes with others over those from an offset on, and zeros up to it
abbrev pub overwritten : List ℕ → ℕ → List ℕ → List ℕ
overwritten bytes offset new = resized bytes offset ++ new ++ drop (offset + length new) bytes

-- a number of 16, 32 or 64 bits as bytes
unfoldable pub le16 : ℕ → List ℕ
le16 x = little_bytes 2 x

unfoldable pub le32 : ℕ → List ℕ
le32 x = little_bytes 4 x

unfoldable pub le64 : ℕ → List ℕ
le64 x = little_bytes 8 x

-- numbers of 32 bits, one after the other
unfoldable pub le32s : List ℕ → List ℕ
le32s xs = flat_map le32 xs

unfoldable pub zeros : ℕ → List ℕ
zeros n = replicate n 0

-- the number that stands at an offset
unfoldable pub u16_of : List ℕ → ℕ → ℕ
u16_of s at = little_number 2 (drop at s)

unfoldable pub u32_of : List ℕ → ℕ → ℕ
u32_of s at = little_number 4 (drop at s)

unfoldable pub u64_of : List ℕ → ℕ → ℕ
u64_of s at = little_number 8 (drop at s)

-- the n numbers of 32 bits that stand at an offset
unfoldable pub u32s_of : List ℕ → ℕ → ℕ → List ℕ
u32s_of s at zero = []
u32s_of s at (suc n) = u32_of s at ∷ u32s_of s (at + 4) n

unfoldable pub are_zero : List ℕ → Bool
are_zero s = list_all (λ b. nat_eq b 0) s
