-- A number read from bytes is written as these bytes, and a number written is read again.
use Rattle.std.proofs.Common.{◌≡◌, ℕ, zero, suc, ◌+◌, ◌*◌, ◌^◌, ◌<◌, ◌≤◌, List, [], ◌∷◌, ◌++◌, length, get_or, take, drop, refl, sym, ap, ◌∙◌, append_assoc, arith, true, inl, inr}
use Rattle.std.proofs.lemmas.List.{drop-drop, length-take, length-drop, take-append-drop, length-take-le, get_or-take, get_or-drop, get_or_past}
use Rattle.std.proofs.lemmas.Bool.{cases_lt, eqb-true, and_parts}
use Rattle.std.proofs.lemmas.Nat.{le_bytes_2, le_bytes_4, le_bytes_8}
use Rattle.std.specs.List.{list_all}
use Rattle.std.specs.Prelude.{nat_eq}
use Rattle.std.specs.Int.{Width, w16, w32, w64, from_le_bytes}
use Rattle.byteorder.specs.Endian.{little_number}
use Rattle.byteorder.specs.Numbers.{little_from-take, little_number-reads_back}
use Rattle.fs_layout.specs.Bytes.{le16, le32, le64, le32s, zeros, u16_of, u32_of, u64_of, u32s_of, are_zero, window}
use native.Mathlib.Numerals.{unary_clauses}
use Rattle.fs_layout.specs.Bytes.{IsBytes}

pub IsBytes-part : (n at : ℕ) (s : List ℕ) → IsBytes s → IsBytes (take n (drop at s))
IsBytes-part n at s h i =
    elim (cases_lt i n) [
      | inl lt ↦ rw (get_or-take n (drop at s) i 0 lt) (rw get_or-drop (h (at + i)))
      | inr le ↦ rw (get_or_past (take n (drop at s)) i 0 (omega (arith, length-take n (drop at s)))) (omega arith)
    ]

pub part_len : (n at : ℕ) (s : List ℕ) → at + n ≤ length s → length (take n (drop at s)) ≡ n
part_len n at s h = length-take-le n (drop at s) (omega (arith, length-drop at s))

-- a part and what follows it
pub split : (n at : ℕ) (s x : List ℕ) → x ≡ take n (drop at s) → drop at s ≡ x ++ drop (at + n) s
split n at s x e =
    sym (take-append-drop n (drop at s)) ∙ ap (λ (r : List ℕ). take n (drop at s) ++ r) (drop-drop n at s)
    ∙ ap (λ (r : List ℕ). r ++ drop (at + n) s) (sym e)

-- the number that the first bytes say
said : (w : Width) (n : ℕ) (s : List ℕ) → from_le_bytes w (take n s) ≡ little_number n (take n s) → little_number n s ≡ from_le_bytes w (take n s)
said w n s same = sym (same ∙ little_from-take 0 n n s (omega arith))

pub back16 : (s : List ℕ) (at : ℕ) → IsBytes s → at + 2 ≤ length s → drop at s ≡ le16 (u16_of s at) ++ drop (at + 2) s
unfolding le16 u16_of
back16 s at fits room = split 2 at s _ (le_bytes_2 _ (u16_of s at) (part_len 2 at s room) (IsBytes-part 2 at s fits) (said w16 2 (drop at s) (omega arith)))

pub back32 : (s : List ℕ) (at : ℕ) → IsBytes s → at + 4 ≤ length s → drop at s ≡ le32 (u32_of s at) ++ drop (at + 4) s
unfolding le32 u32_of
back32 s at fits room = split 4 at s _ (le_bytes_4 _ (u32_of s at) (part_len 4 at s room) (IsBytes-part 4 at s fits) (said w32 4 (drop at s) (omega arith)))

pub back64 : (s : List ℕ) (at : ℕ) → IsBytes s → at + 8 ≤ length s → drop at s ≡ le64 (u64_of s at) ++ drop (at + 8) s
unfolding le64 u64_of
back64 s at fits room = split 8 at s _ (le_bytes_8 _ (u64_of s at) (part_len 8 at s room) (IsBytes-part 8 at s fits) (said w64 8 (drop at s) (omega arith)))

-- one item more, and those behind it
pub next_back : (size n : ℕ) (s : List ℕ) (at : ℕ) (x xs : List ℕ) → drop at s ≡ x ++ drop (at + size) s → drop (at + size) s ≡ xs ++ drop (at + size + size * n) s
    → drop at s ≡ (x ++ xs) ++ drop (at + size * suc n) s
next_back size n s at x xs first rest =
    let end : at + size + size * n ≡ at + size * suc n = simp unary_clauses (omega arith) in
    first ∙ ap (λ (r : List ℕ). x ++ r) (rest ∙ ap (λ (m : ℕ). xs ++ drop m s) end) ∙ sym (append_assoc x xs (drop (at + size * suc n) s))

pub back32s : (n : ℕ) (s : List ℕ) (at : ℕ) → IsBytes s → at + 4 * n ≤ length s
    → drop at s ≡ le32s (u32s_of s at n) ++ drop (at + 4 * n) s
unfolding le32s u32s_of
back32s zero s at fits room = ap (λ (k : ℕ). drop k s) (omega arith)
back32s (suc n) s at fits room = next_back 4 n s at _ _ (back32 s at fits (omega arith)) (back32s n s (at + 4) fits (omega arith))

pub are_zero-zeros : (s : List ℕ) → are_zero s ≡ true → s ≡ zeros (length s)
unfolding are_zero zeros
are_zero-zeros [] e = refl
are_zero-zeros (x ∷ s) e =
    let both = and_parts (nat_eq x 0) (list_all (λ b. nat_eq b 0) s) e in
    let tail : s ≡ zeros (length s) = are_zero-zeros s both.1 in
    ap (λ (k : ℕ). k ∷ s) (eqb-true x 0 both.0) ∙ ap (λ (r : List ℕ). 0 ∷ r) tail

pub zeros-are_zero : (n : ℕ) → are_zero (zeros n) ≡ true
unfolding are_zero zeros
zeros-are_zero zero = refl
zeros-are_zero (suc n) = zeros-are_zero n

pub zeros_back : (s : List ℕ) (at n : ℕ) → at + n ≡ length s → are_zero (drop at s) ≡ true → drop at s ≡ zeros n
zeros_back s at n len e = are_zero-zeros (drop at s) e ∙ ap zeros (length-drop at s ∙ omega arith)

-- a part that is zero
pub zero_part : (n at : ℕ) (s : List ℕ) → at + n ≤ length s → are_zero (window s at n) ≡ true → window s at n ≡ zeros n
zero_part n at s room e = are_zero-zeros (window s at n) e ∙ ap zeros (part_len n at s room)

-- ---- what was written is read
pub again16 : (x : ℕ) (rest : List ℕ) → x < 2 ^ 16 → u16_of (le16 x ++ rest) 0 ≡ x
unfolding le16 u16_of
again16 x rest h = little_number-reads_back 2 x rest h

pub again32 : (x : ℕ) (rest : List ℕ) → x < 2 ^ 32 → u32_of (le32 x ++ rest) 0 ≡ x
unfolding le32 u32_of
again32 x rest h = little_number-reads_back 4 x rest h

pub again64 : (x : ℕ) (rest : List ℕ) → x < 2 ^ 64 → u64_of (le64 x ++ rest) 0 ≡ x
unfolding le64 u64_of
again64 x rest h = little_number-reads_back 8 x rest h

pub u16_of-drop : (s : List ℕ) (a b : ℕ) → u16_of (drop a s) b ≡ u16_of s (a + b)
unfolding u16_of
u16_of-drop s a b = ap (little_number 2) (drop-drop b a s)

pub u32_of-drop : (s : List ℕ) (a b : ℕ) → u32_of (drop a s) b ≡ u32_of s (a + b)
unfolding u32_of
u32_of-drop s a b = ap (little_number 4) (drop-drop b a s)

pub u64_of-drop : (s : List ℕ) (a b : ℕ) → u64_of (drop a s) b ≡ u64_of s (a + b)
unfolding u64_of
u64_of-drop s a b = ap (little_number 8) (drop-drop b a s)

-- a number that stands at an offset
pub read32 : (s : List ℕ) (at x : ℕ) (rest : List ℕ) → drop at s ≡ le32 x ++ rest → x < 2 ^ 32 → u32_of s at ≡ x
read32 s at x rest e h = ap (u32_of s) (omega arith) ∙ sym (u32_of-drop s at 0) ∙ ap (λ (r : List ℕ). u32_of r 0) e ∙ again32 x rest h

pub read16 : (s : List ℕ) (at x : ℕ) (rest : List ℕ) → drop at s ≡ le16 x ++ rest → x < 2 ^ 16 → u16_of s at ≡ x
read16 s at x rest e h = ap (u16_of s) (omega arith) ∙ sym (u16_of-drop s at 0) ∙ ap (λ (r : List ℕ). u16_of r 0) e ∙ again16 x rest h

pub read64 : (s : List ℕ) (at x : ℕ) (rest : List ℕ) → drop at s ≡ le64 x ++ rest → x < 2 ^ 64 → u64_of s at ≡ x
read64 s at x rest e h = ap (u64_of s) (omega arith) ∙ sym (u64_of-drop s at 0) ∙ ap (λ (r : List ℕ). u64_of r 0) e ∙ again64 x rest h

pub read32s : (xs s : List ℕ) (at : ℕ) (rest : List ℕ) → drop at s ≡ le32s xs ++ rest → ((i : ℕ) → get_or xs i 0 < 2 ^ 32)
    → u32s_of s at (length xs) ≡ xs
unfolding le32s u32s_of le32
read32s [] s at rest e h = refl
read32s (x ∷ xs) s at rest e h =
    let first : u32_of s at ≡ x = read32 s at x (le32s xs ++ rest) e (h 0) in
    let after : drop (at + 4) s ≡ le32s xs ++ rest = sym (drop-drop 4 at s) ∙ ap (drop 4) e in
    let others : u32s_of s (at + 4) (length xs) ≡ xs = read32s xs s (at + 4) rest after (λ i. h (suc i)) in
    ap (λ (k : ℕ). k ∷ u32s_of s (at + 4) (length xs)) first ∙ ap (λ (r : List ℕ). x ∷ r) others
