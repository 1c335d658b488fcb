-- A byte and a number of a sector after a write into it.
use Rattle.std.proofs.Common.{◌≡◌, ℕ, zero, suc, ◌+◌, ◌-◌, ◌<◌, ◌≤◌, List, ◌++◌, length, take, drop, get_or, refl, sym, ap, ◌∙◌, arith, ◌⊎◌}
use Rattle.std.proofs.lemmas.List.{length-append, length-take-le, length-drop, get_or-take, get_or-drop, get_or_append_left, get_or-append_right}
use Rattle.byteorder.specs.Endian.{little_number}
use Rattle.byteorder.specs.Numbers.{little_from-take, length-bytes_low_first}
use Rattle.fs_layout.specs.Bytes.{IsSector, splice, window, le32, zeros, u32_of}
use Rattle.fs_layout.proofs.Splices.{window_other}
use Rattle.fs_layout.proofs.Writes.{length-zeros}
use Rattle.fs_layout.proofs.Sectors.{IsBytes-zeros}

-- ---- bytes after a write
-- a write leaves the length
pub length-splice : (s x : List ℕ) (at : ℕ) → at + length x ≤ length s → length (splice s at x) ≡ length s
unfolding splice
length-splice s x at room =
    let front : length (take at s) ≡ at = length-take-le at s (omega arith) in
    omega (arith, front, length-append (take at s) (x ++ drop (at + length x) s), length-append x (drop (at + length x) s), length-drop (at + length x) s)

-- a byte before what was written
pub get_or-splice_before : (s x : List ℕ) (at i : ℕ) → at ≤ length s → i < at → get_or (splice s at x) i 0 ≡ get_or s i 0
unfolding splice
get_or-splice_before s x at i room lt =
    let front : length (take at s) ≡ at = length-take-le at s room in
    get_or_append_left (take at s) (x ++ drop (at + length x) s) 0 i (omega (arith, front)) ∙ get_or-take at s i 0 lt

-- a byte that was written
pub get_or-splice_inside : (s x : List ℕ) (at i : ℕ) → at ≤ length s → at ≤ i → i < at + length x
    → get_or (splice s at x) i 0 ≡ get_or x (i - at) 0
unfolding splice
get_or-splice_inside s x at i room ge lt =
    let front : length (take at s) ≡ at = length-take-le at s room in
    get_or-append_right (take at s) (x ++ drop (at + length x) s) at i 0 front ge ∙ get_or_append_left x (drop (at + length x) s) 0 (i - at) (omega arith)

-- a byte behind what was written
pub get_or-splice_after : (s x : List ℕ) (at i : ℕ) → at ≤ length s → at + length x ≤ i → get_or (splice s at x) i 0 ≡ get_or s i 0
unfolding splice
get_or-splice_after s x at i room ge =
    let front : length (take at s) ≡ at = length-take-le at s room in
    get_or-append_right (take at s) (x ++ drop (at + length x) s) at i 0 front (omega arith)
    ∙ get_or-append_right x (drop (at + length x) s) (length x) (i - at) 0 refl (omega arith)
    ∙ get_or-drop (at + length x) s (i - at - length x) 0
    ∙ ap (λ (k : ℕ). get_or s k 0) (omega arith)

-- a byte of zeros
pub get_or-zeros : (n i : ℕ) → get_or (zeros n) i 0 ≡ 0
unfolding zeros
get_or-zeros zero i = refl
get_or-zeros (suc n) zero = refl
get_or-zeros (suc n) (suc i) = get_or-zeros n i

-- ---- whole sectors
-- 512 zeros are a whole sector
pub IsSector-zeros : IsSector (zeros 512)
IsSector-zeros = record { len = length-zeros 512; bytes = IsBytes-zeros 512 }

-- ---- a number in a sector
pub length-le32 : (x : ℕ) → length (le32 x) ≡ 4
unfolding le32
length-le32 x = length-bytes_low_first 0 4 x

-- a number depends on its four bytes alone
u32_of-window : (s : List ℕ) (at : ℕ) → u32_of s at ≡ little_number 4 (window s at 4)
unfolding u32_of
u32_of-window s at = sym (little_from-take 0 4 4 (drop at s) (omega arith))

-- a number beside the one that was written
pub u32_of-splice_other : (s : List ℕ) (at other x : ℕ) → at + 4 ≤ length s → other + 4 ≤ length s → (other + 4 ≤ at) ⊎ (at + 4 ≤ other)
    → u32_of (splice s at (le32 x)) other ≡ u32_of s other
u32_of-splice_other s at other x room fits apart =
    u32_of-window (splice s at (le32 x)) other
    ∙ ap (little_number 4) (window_other s (le32 x) at other 4 4 (length-le32 x) room fits apart)
    ∙ sym (u32_of-window s other)

-- a number of zeros
pub u32_of-zeros : (n at : ℕ) → u32_of (zeros n) at ≡ 0
unfolding u32_of
u32_of-zeros n at =
    let a : get_or (drop at (zeros n)) 0 0 ≡ 0 = get_or-drop at (zeros n) 0 0 ∙ get_or-zeros n (at + 0) in
    let b : get_or (drop at (zeros n)) 1 0 ≡ 0 = get_or-drop at (zeros n) 1 0 ∙ get_or-zeros n (at + 1) in
    let c : get_or (drop at (zeros n)) 2 0 ≡ 0 = get_or-drop at (zeros n) 2 0 ∙ get_or-zeros n (at + 2) in
    let d : get_or (drop at (zeros n)) 3 0 ≡ 0 = get_or-drop at (zeros n) 3 0 ∙ get_or-zeros n (at + 3) in
    omega (arith, a, b, c, d)
