-- Where the log areas are, and which one is next.
use Rattle.std.proofs.Common.{◌≡◌, ℕ, zero, suc, ◌+◌, ◌*◌, ◌/◌, ◌<◌, ◌≤◌, List, length, arith, refl, sym, ◌∙◌, ap, nat_lt, ◌&&◌}
use Rattle.std.proofs.lemmas.Bool.{and_from, and_parts, cond_both, lt-ltb, ltb-true, true≢false}
use Rattle.fs_layout.specs.Bytes.{u32_of}
use Rattle.fs_layout.specs.Commit.{commit_bytes_in}
use Rattle.fs_layout.specs.Header.{area_start, next_area, other_area}
use Rattle.fs_layout.proofs.CommitLaw.{number_of_word}

pub next_small : (header word : ℕ) → (next_area header word ≤ 1) × (next_area header word ≤ header)
next_small zero word = (omega arith, omega arith)
next_small (suc less) word =
    cond_both (nat_lt 0 word && nat_lt word 0x8000_0000) 1 0 (λ (a : ℕ). (a ≤ 1) × (a ≤ suc less)) (λ _. (omega arith, omega arith)) (λ _. (omega arith, omega arith))

-- a commit's area isn't the next one
pub areas_apart : (header area count word n : ℕ) → word ≡ count + 0x8000_0000 * area → 0 < count → count < 0x8000_0000 → area ≤ 1 → 0 < header
    → area_start header area ≤ n → n < area_start header area + 126 + 129 * header
    → area_start header (next_area header word) ≤ n → n < area_start header (next_area header word) + 126 + 129 * header → ⊥
areas_apart zero area count word n is some small one there low high = absurd (omega (arith, there))
areas_apart (suc less) (suc (suc area)) count word n is some small one there low high = absurd (omega (arith, one))
areas_apart (suc less) zero count word n is some small one there low high =
    let test = nat_lt 0 word && nat_lt word 0x8000_0000 in
    cond_both test 1 0 (λ (a : ℕ). area_start (suc less) a ≤ n → n < area_start (suc less) a + 126 + 129 * suc less → ⊥)
    (λ _ low2 high2. omega (arith, low2, high))
    (λ no. absurd (true≢false (sym (and_from (nat_lt 0 word) (nat_lt word 0x8000_0000) (lt-ltb 0 word (omega (arith, is, some))) (lt-ltb word 0x8000_0000 (omega (arith, is, small)))) ∙ no)))
areas_apart (suc less) (suc zero) count word n is some small one there low high =
    let test = nat_lt 0 word && nat_lt word 0x8000_0000 in
    cond_both test 1 0 (λ (a : ℕ). area_start (suc less) a ≤ n → n < area_start (suc less) a + 126 + 129 * suc less → ⊥)
    (λ yes. let lt : word < 0x8000_0000 = ltb-true word 0x8000_0000 (and_parts (nat_lt 0 word) (nat_lt word 0x8000_0000) yes).1 in absurd (omega (arith, lt, is)))
    (λ _ low2 high2. omega (arith, low, high2))

-- the area that a spelled commit names
pub area_spelled : (s ts : List ℕ) (area : ℕ) → s ≡ commit_bytes_in area ts → length ts < 0x8000_0000 → area ≤ 1 → u32_of s 4 / 0x8000_0000 ≡ area
area_spelled s ts area is small one =
    let word : u32_of s 4 ≡ length ts + 0x8000_0000 * area = ap (λ l. u32_of l 4) is ∙ number_of_word area ts (omega (arith, small, one)) in
    omega (arith, word, small)

-- the area after it
pub next_other : (header area count word : ℕ) → word ≡ count + 0x8000_0000 * area → 0 < count → count < 0x8000_0000 → area ≤ 1 → other_area header area ≡ next_area header word
next_other zero area count word is some small one = refl
next_other (suc less) (suc (suc area)) count word is some small one = absurd (omega (arith, one))
next_other (suc less) zero count word is some small one =
    cond_both (nat_lt 0 word && nat_lt word 0x8000_0000) 1 0 (λ (a : ℕ). 1 ≡ a)
    (λ _. refl)
    (λ no. absurd (true≢false (sym (and_from (nat_lt 0 word) (nat_lt word 0x8000_0000) (lt-ltb 0 word (omega (arith, is, some))) (lt-ltb word 0x8000_0000 (omega (arith, is, small)))) ∙ no)))
next_other (suc less) (suc zero) count word is some small one =
    cond_both (nat_lt 0 word && nat_lt word 0x8000_0000) 1 0 (λ (a : ℕ). 0 ≡ a)
    (λ yes. let lt : word < 0x8000_0000 = ltb-true word 0x8000_0000 (and_parts (nat_lt 0 word) (nat_lt word 0x8000_0000) yes).1 in absurd (omega (arith, lt, is)))
    (λ _. refl)

-- and where the commit sector is idle, or has one area
pub next_idle : (header word : ℕ) → word ≡ 0 → next_area header word ≡ 0
next_idle header word is = ap (next_area header) is ∙ at_zero header
  where
    at_zero : (header : ℕ) → next_area header 0 ≡ 0
    at_zero zero = refl
    at_zero (suc less) = refl

pub next_alone : (header word : ℕ) → header ≡ 0 → next_area header word ≡ 0
next_alone header word none = ap (λ (h : ℕ). next_area h word) none
