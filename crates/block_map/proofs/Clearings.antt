-- The end of a list becomes zeros.
use Rattle.std.proofs.Common.{◌≡◌, ℕ, ◌+◌, ◌-◌, ◌<◌, ◌≤◌, List, length, drop, get_or, replicate, sym, ap, ◌∙◌, arith, inl, inr}
use Rattle.std.proofs.lemmas.Bool.{cases_lt}
use Rattle.std.proofs.lemmas.List.{get_or-drop, get_or_past}
use Rattle.fs_layout.specs.Bytes.{splice, zeros, u32_of}
use Rattle.fs_layout.proofs.Writes.{length-zeros, part_is_splice}
use Rattle.fs_layout.proofs.SplicedBytes.{get_or-zeros, length-splice, get_or-splice_before, get_or-splice_inside}
use borrow.Rule.Slice.PartMut.{put_mid}

-- a list of `size` numbers, zeros from `at` on
pub record IsClearedFrom (at size : ℕ) (old new : List ℕ) : Type 0 where
  pub len : length new ≡ size
  pub before : (i : ℕ) → i < at → get_or new i 0 ≡ get_or old i 0
  pub after : (i : ℕ) → at ≤ i → get_or new i 0 ≡ 0

pub cleared_from : {size m : ℕ} {old piece : List ℕ} (at k : ℕ) → length old ≡ size → at ≤ size → k ≡ size - at → piece ≡ replicate m 0 → m ≡ size - at
    → IsClearedFrom at size old (put_mid at k old piece)
unfolding zeros
cleared_from {size} {m} {old} {piece} at k len few wide is_m whole_m =
    let is : piece ≡ zeros (size - at) = is_m ∙ ap (λ (n : ℕ). replicate n 0) whole_m in
    let z : length (zeros (size - at)) ≡ size - at = length-zeros (size - at) in
    let e : put_mid at k old piece ≡ splice old at (zeros (size - at)) = part_is_splice old piece (zeros (size - at)) at k (size - at) z is wide in
    let whole : length (splice old at (zeros (size - at))) ≡ size = length-splice old (zeros (size - at)) at (omega (arith, z, len, few)) ∙ len in
    record {
      len = ap length e ∙ whole;
      before = λ i lt. ap (λ (r : List ℕ). get_or r i 0) e ∙ get_or-splice_before old (zeros (size - at)) at i (omega (arith, len, few)) lt;
      after = λ i ge. ap (λ (r : List ℕ). get_or r i 0) e ∙ elim (cases_lt i size) [
        | inl lt ↦ get_or-splice_inside old (zeros (size - at)) at i (omega (arith, len, few)) ge (omega (arith, z, lt, few)) ∙ get_or-zeros (size - at) (i - at)
        | inr past ↦ get_or_past (splice old at (zeros (size - at))) i 0 (omega (arith, whole, past))
      ];
    }

-- a number depends on its four bytes alone
pub u32_of-same : (s t : List ℕ) (at : ℕ) → ((i : ℕ) → at ≤ i → i < at + 4 → get_or s i 0 ≡ get_or t i 0) → u32_of s at ≡ u32_of t at
unfolding u32_of
u32_of-same s t at same =
    let a : get_or (drop at s) 0 0 ≡ get_or (drop at t) 0 0 = get_or-drop at s 0 0 ∙ same (at + 0) (omega arith) (omega arith) ∙ sym (get_or-drop at t 0 0) in
    let b : get_or (drop at s) 1 0 ≡ get_or (drop at t) 1 0 = get_or-drop at s 1 0 ∙ same (at + 1) (omega arith) (omega arith) ∙ sym (get_or-drop at t 1 0) in
    let c : get_or (drop at s) 2 0 ≡ get_or (drop at t) 2 0 = get_or-drop at s 2 0 ∙ same (at + 2) (omega arith) (omega arith) ∙ sym (get_or-drop at t 2 0) in
    let d : get_or (drop at s) 3 0 ≡ get_or (drop at t) 3 0 = get_or-drop at s 3 0 ∙ same (at + 3) (omega arith) (omega arith) ∙ sym (get_or-drop at t 3 0) in
    omega (arith, a, b, c, d)

pub number_before : {at size : ℕ} {old new : List ℕ} → IsClearedFrom at size old new → (j : ℕ) → j + 4 ≤ at → u32_of new j ≡ u32_of old j
number_before {old = old} {new} c j le = u32_of-same new old j (λ i low high. c.before i (omega (arith, high, le)))

pub number_after : {at size : ℕ} {old new : List ℕ} → IsClearedFrom at size old new → (j : ℕ) → at ≤ j → u32_of new j ≡ 0
unfolding u32_of
number_after {new = new} c j le =
    let a : get_or (drop j new) 0 0 ≡ 0 = get_or-drop j new 0 0 ∙ c.after (j + 0) (omega (arith, le)) in
    let b : get_or (drop j new) 1 0 ≡ 0 = get_or-drop j new 1 0 ∙ c.after (j + 1) (omega (arith, le)) in
    let d : get_or (drop j new) 2 0 ≡ 0 = get_or-drop j new 2 0 ∙ c.after (j + 2) (omega (arith, le)) in
    let e : get_or (drop j new) 3 0 ≡ 0 = get_or-drop j new 3 0 ∙ c.after (j + 3) (omega (arith, le)) in
    omega (arith, a, b, d, e)
