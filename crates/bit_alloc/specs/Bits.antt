-- The bits of one sector, and those of a bitmap.
--     AreSet, IsLeastClear        the first bits of a sector are set; the lowest that is clear
--     HasFullWords        the first words of 64 bits have all their bits set
--     ClearsListed        the bits of numbers of a list become clear
--     SetsNumber, SetsListed        the bit of a number becomes set, which was clear; those of a list do, one after the other
--     clear_below        how many of a bitmap's first bits are clear
use Rattle.std.specs.Prelude.{◌≡◌, ◌≢◌, ℕ, ◌*◌, ◌-◌, ◌/◌, ◌^◌, ◌<◌, ◌⊎◌, List, get_or, false, not, IsTrue, count_by}
use Rattle.std.specs.List.{range_with_len}
use Rattle.fs_layout.specs.Bytes.{SectorMap, IsSector, u64_of}
use Rattle.fs_layout.specs.Images.{bit}
use Rattle.bit_alloc.specs.Bitmaps.{IsNumberOf}
use Rattle.bit_alloc.specs.Chains.{IsChain}

-- each of the first n bits is set
abbrev pub AreSet : List ℕ → ℕ → Type 0
AreSet sector n = (i : ℕ) → i < n → IsTrue (bit (λ _. sector) 0 i)

-- bit n is clear, and each lower one is set
pub record IsLeastClear (sector : List ℕ) (n : ℕ) : Type 0 where
  pub within : n < 4096
  pub clear : bit (λ _. sector) 0 n ≡ false
  pub below : AreSet sector n

-- each of the first n words has all its bits set
abbrev pub HasFullWords : List ℕ → ℕ → Type 0
HasFullWords sector n = (k : ℕ) → k < n → u64_of sector (8 * k) ≡ 2 ^ 64 - 1

-- The numbers of a list from place `from` on, before place `end`, have their bits in sector k of a bitmap. There they are clear, and
-- the others as they were.
pub record ClearsListed (numbers : List ℕ) (k from end : ℕ) (old new : List ℕ) : Type 0 where
  pub clear : (n : ℕ) → IsNumberOf numbers from end n → (n / 4096 ≡ k) × (bit (λ _. new) 0 n ≡ false)
  pub others : (n : ℕ) → n / 4096 ≡ k → IsNumberOf numbers from end n ⊎ (bit (λ _. new) 0 n ≡ bit (λ _. old) 0 n)

-- Number n has its bit in sector k of a bitmap. It was clear and is set, and each other bit is as it was.
pub record SetsNumber (k n : ℕ) (old new : List ℕ) : Type 0 where
  pub here : n / 4096 ≡ k
  pub clear : bit (λ _. old) 0 n ≡ false
  pub set : IsTrue (bit (λ _. new) 0 n)
  pub others : (m : ℕ) → m / 4096 ≡ k → m ≢ n → bit (λ _. new) 0 m ≡ bit (λ _. old) 0 m
  pub whole : IsSector new

-- so it goes with the numbers of a list from place `from` on, before place `end`, one after the other
pub record SetsListed (numbers : List ℕ) (k from end : ℕ) (old new : List ℕ) : Type 0 where
  pub steps : IsChain (λ i. SetsNumber k (get_or numbers i 0)) from end old new

-- how many of the first n bits of the bitmap that begins at a sector are clear
unfoldable pub clear_below : SectorMap → ℕ → ℕ → ℕ
clear_below image start n = count_by (λ i. not (bit image start i)) (range_with_len 0 n)
