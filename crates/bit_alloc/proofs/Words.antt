-- The bits of a word of 64 bits, and those of the sector that it stands in.
use Rattle.std.proofs.Common.{◌≡◌, ℕ, zero, suc, ◌+◌, ◌-◌, ◌*◌, ◌/◌, ◌%◌, ◌^◌, ◌<◌, ◌≤◌, Bool, nat_eq, List, get_or, drop, refl, sym, ap, subst, ◌∙◌, arith, inl, inr}
use Rattle.std.specs.Prelude.{count_by}
use Rattle.std.specs.List.{range_with_len}
use Rattle.std.specs.Int.{bit_at, trailing_ones, w64}
use Rattle.std.specs.Int.RustNames.{count_ones}
use Rattle.std.specs.Int.Count.{ones_step}
use Rattle.std.proofs.Math.Nat.{pow-suc}
use Rattle.std.proofs.lemmas.Bool.{cases_lt}
use Rattle.std.proofs.lemmas.List.{get_or-drop}
use Rattle.std.proofs.lemmas.Nat.Bits.{bit_at_cat_low, bit_at_cat_high, bit_at-suc, bit_at-lt, bit_at_lowest, bit_at_ones, bit_at-trailing_ones}
use Rattle.byteorder.specs.Endian.{little_from}
use Rattle.fs_layout.specs.Bytes.{IsBytes, IsSector, u64_of}
use Rattle.fs_layout.proofs.Small.{u64_small}
use Rattle.bit_alloc.specs.Bits.{AreSet, HasFullWords, IsLeastClear, clear_below}
use Rattle.fs_layout.specs.Images.{bit}
use Rattle.fs_layout.proofs.Counting.{one_if, count_cons, count_same, count_both, count_split, count_moved, count_at_most}

-- bit j of a number of n bytes is one of byte j / 8
pub number_bit : (xs : List ℕ) → IsBytes xs → (n i j : ℕ) → j < 8 * n → bit_at (little_from i n xs) j ≡ bit_at (get_or xs (i + j / 8) 0) (j % 8)
number_bit xs bytes zero i j lt = absurd (omega arith)
number_bit xs bytes (suc n) i j lt =
    let x : ℕ = get_or xs i 0 in
    let rest : ℕ = little_from (suc i) n xs in
    let small : x < 2 ^ 8 = bytes i in
    let turned : x + 256 * rest ≡ rest * 2 ^ 8 + x = omega arith in
    ap (λ (m : ℕ). bit_at m j) turned ∙ elim (cases_lt j 8) [
      | inl low ↦
          let byte : i ≡ i + j / 8 = omega arith in
          let place : j ≡ j % 8 = omega arith in
          bit_at_cat_low rest 8 x j low ∙ ap (λ (m : ℕ). bit_at (get_or xs m 0) j) byte ∙ ap (λ (m : ℕ). bit_at (get_or xs (i + j / 8) 0) m) place
      | inr high ↦
          let byte : suc i + (j - 8) / 8 ≡ i + j / 8 = omega arith in
          let place : (j - 8) % 8 ≡ j % 8 = omega arith in
          bit_at_cat_high rest 8 x j small high ∙ number_bit xs bytes n (suc i) (j - 8) (omega arith)
          ∙ ap (λ (m : ℕ). bit_at (get_or xs m 0) ((j - 8) % 8)) byte ∙ ap (λ (m : ℕ). bit_at (get_or xs (i + j / 8) 0) m) place
    ]

-- the bits of word k of a sector are those from 64 k on
pub word_bit : (s : List ℕ) → IsBytes s → (k j : ℕ) → k < 64 → j < 64 → nat_eq (bit_at (u64_of s (8 * k)) j) 1 ≡ bit (λ _. s) 0 (64 * k + j)
unfolding u64_of bit
word_bit s bytes k j low few =
    let dropped : IsBytes (drop (8 * k) s) = λ i. rw get_or-drop (bytes (8 * k + i)) in
    let byte : 8 * k + (0 + j / 8) ≡ (64 * k + j) % 4096 / 8 = omega arith in
    let place : j % 8 ≡ (64 * k + j) % 8 = omega arith in
    ap (λ (m : ℕ). nat_eq m 1) (number_bit (drop (8 * k) s) dropped 8 0 j few
    ∙ ap (λ (m : ℕ). bit_at m (j % 8)) (get_or-drop (8 * k) s (0 + j / 8) 0)
    ∙ ap (λ (m : ℕ). bit_at (get_or s m 0) (j % 8)) byte ∙ ap (λ (m : ℕ). bit_at (get_or s ((64 * k + j) % 4096 / 8) 0) m) place)

bit_as_number : (b : ℕ) → b < 2 → one_if (nat_eq b 1) ≡ b
unfolding one_if
bit_as_number zero lt = refl
bit_as_number (suc zero) lt = refl
bit_as_number (suc (suc b)) lt = absurd (omega arith)

-- as many are set as the count of ones says
pub ones_counted : (k n : ℕ) → n < 2 ^ k → count_ones n ≡ count_by (λ j. nat_eq (bit_at n j) 1) (range_with_len 0 k)
unfolding count_ones
ones_counted zero n lt = let none : n ≡ 0 = omega arith in ap count_ones none
ones_counted (suc k) n lt =
    let f : ℕ → Bool = λ j. nat_eq (bit_at n j) 1 in
    let pow : 2 ^ suc k ≡ 2 ^ k * 2 = pow-suc 2 k in
    let rest : count_ones (n / 2) ≡ count_by (λ j. nat_eq (bit_at (n / 2) j) 1) (range_with_len 0 k) = ones_counted k (n / 2) (omega arith) in
    let next : count_by (λ j. f (1 + j)) (range_with_len 0 k) ≡ count_by (λ j. nat_eq (bit_at (n / 2) j) 1) (range_with_len 0 k) =
    count_same _ _ 0 k (λ j from to. let one : 1 + j ≡ suc j = omega arith in ap (λ (m : ℕ). nat_eq (bit_at n m) 1) one ∙ ap (λ (m : ℕ). nat_eq m 1) (bit_at-suc n j)) in
    let lowest : one_if (f 0) ≡ n % 2 = bit_as_number (bit_at n 0) (bit_at-lt n 0) ∙ bit_at_lowest n in
    omega (arith, ones_step n, rest, next, lowest, count_cons f 0 k, count_moved f 1 0 k)

-- no more than it has bits
pub ones_few : (k n : ℕ) → n < 2 ^ k → count_ones n ≤ k
ones_few k n lt = omega (arith, ones_counted k n lt, count_at_most (λ j. nat_eq (bit_at n j) 1) 0 k)

-- one word more of a sector is counted
pub word_counted : (s : List ℕ) → IsSector s → (k m : ℕ) → m ≡ 64 → k < 64
    → count_by (bit (λ _. s) 0) (range_with_len 0 (64 * k + m)) ≡ count_by (bit (λ _. s) 0) (range_with_len 0 (64 * k)) + count_ones (u64_of s (8 * k))
word_counted s whole k m is low =
    let f : ℕ → Bool = bit (λ _. s) 0 in
    let n : ℕ = u64_of s (8 * k) in
    let small : n < 2 ^ m = subst (λ (j : ℕ). n < 2 ^ j) (sym is) (u64_small s (8 * k) whole.bytes) in
    let word : count_by (λ j. f (64 * k + j)) (range_with_len 0 m) ≡ count_by (λ j. nat_eq (bit_at n j) 1) (range_with_len 0 m) =
    count_same _ _ 0 m (λ j from to. sym (word_bit s whole.bytes k j low (omega (arith, to, is)))) in
    let start : 0 + 64 * k ≡ 64 * k + 0 = omega arith in
    let moved : count_by f (range_with_len (0 + 64 * k) m) ≡ count_by f (range_with_len (64 * k + 0) m) = ap (λ (q : ℕ). count_by f (range_with_len q m)) start in
    omega (arith, count_split f 0 (64 * k) m, moved, count_moved f (64 * k) 0 m, word, ones_counted m n small)

-- what the set bits leave of a sector is clear
pub rest_clear : (s : List ℕ) (n : ℕ) → clear_below (λ _. s) 0 n ≡ n - count_by (bit (λ _. s) 0) (range_with_len 0 n)
unfolding clear_below
rest_clear s n = omega (arith, count_both (bit (λ _. s) 0) 0 n)

-- where the first words are full, each bit up to their end is set
pub set_in_words : (s : List ℕ) → IsBytes s → (n : ℕ) → n ≤ 64 → HasFullWords s n → AreSet s (64 * n)
set_in_words s bytes n few full i to =
    let k : ℕ = i / 64 in
    let j : ℕ = i % 64 in
    let place : 64 * k + j ≡ i = omega arith in
    ap (bit (λ _. s) 0) (sym place) ∙ sym (word_bit s bytes k j (omega arith) (omega arith))
    ∙ ap (λ (m : ℕ). nat_eq (bit_at m j) 1) (full k (omega arith)) ∙ ap (λ (m : ℕ). nat_eq m 1) (bit_at_ones 64 j (omega arith))

-- where the next one isn't, its lowest clear bit is that of the sector
pub least_in_word : (s : List ℕ) → IsBytes s → (k n t : ℕ) → k < 64 → n ≡ u64_of s (8 * k) → n + 1 < 2 ^ 64 → t ≡ trailing_ones w64 n → HasFullWords s k
    → IsLeastClear s (64 * k + t)
least_in_word s bytes k n t low is less at full =
    let lowest = bit_at-trailing_ones w64 n less in
    let few : t < 64 = omega (arith, at, lowest.0) in
    let here : (j : ℕ) → j < 64 → bit (λ _. s) 0 (64 * k + j) ≡ nat_eq (bit_at n j) 1 =
    λ j lt. sym (word_bit s bytes k j low lt) ∙ ap (λ (m : ℕ). nat_eq (bit_at m j) 1) (sym is) in
    record {
      within = omega (arith, few, low);
      clear = here t few ∙ ap (λ (m : ℕ). nat_eq m 1) (ap (bit_at n) at ∙ lowest.1);
      below = λ i to. elim (cases_lt i (64 * k)) [
        | inl lt ↦ set_in_words s bytes k (omega arith) full i lt
        | inr from ↦
            let j : ℕ = i - 64 * k in
            let place : 64 * k + j ≡ i = omega arith in
            ap (bit (λ _. s) 0) (sym place) ∙ here j (omega arith) ∙ ap (λ (m : ℕ). nat_eq m 1) (lowest.2 j (omega (arith, at, to, from)))
      ];
    }
