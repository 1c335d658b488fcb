-- A sector ends in zeros where its end is as that of a sector of zeros.
use Rattle.std.proofs.Common.{◌≡◌, ℕ, ◌+◌, ◌-◌, ◌<◌, ◌≤◌, ◌↔◌, IsTrue, Bool, List, length, get_or, take, drop, replicate, sym, ap, arith, ◌∙◌}
use Rattle.std.proofs.lemmas.Grind.{same_number_lists}
use Rattle.std.proofs.lemmas.List.{get_or-drop, get_or-take, get_or-replicate, length-drop, length-take-le, length-replicate}

-- the bytes from n on
abbrev pub end_of : ℕ → List ℕ → List ℕ
end_of n content = take (512 - n) (drop n content)

end_read : (n k : ℕ) (content : List ℕ) → k < 512 - n → get_or (end_of n content) k 0 ≡ get_or content (n + k) 0
end_read n k content below = get_or-take (512 - n) (drop n content) k 0 below ∙ get_or-drop n content k 0

end_len : (n : ℕ) (content : List ℕ) → length content ≡ 512 → length (end_of n content) ≡ 512 - n
end_len n content len =
    let left : length (drop n content) ≡ length content - n = length-drop n content in
    length-take-le (512 - n) (drop n content) (omega (arith, left, len))

end_zero : (n k : ℕ) → k < 512 - n → get_or (end_of n (replicate 512 0)) k 0 ≡ 0
end_zero n k below = end_read n k (replicate 512 0) below ∙ get_or-replicate 512 (n + k) 0 0 (omega (arith, below))

pub ends : (n : ℕ) (content : List ℕ) (b : Bool) → length content ≡ 512 → (IsTrue b ↔ (end_of n content ≡ end_of n (replicate 512 0)))
    → IsTrue b ↔ ((i : ℕ) → n ≤ i → i < 512 → get_or content i 0 ≡ 0)
ends n content b len same = (
  (λ t i ge lt.
      let below : i - n < 512 - n = omega (arith, ge, lt) in
      let at : n + (i - n) ≡ i = omega (arith, ge) in
      ap (λ k. get_or content k 0) (sym at) ∙ sym (end_read n (i - n) content below) ∙ ap (λ (l : List ℕ). get_or l (i - n) 0) (same.0 t)
      ∙ end_zero n (i - n) below),
  (λ zero. same.1 (same_number_lists (end_of n content) (end_of n (replicate 512 0))
      (end_len n content len ∙ sym (end_len n (replicate 512 0) (length-replicate {A = ℕ} 512 0)))
      (λ k lt.
      let size = end_len n content len in
      let below : k < 512 - n = omega (arith, lt, size) in
      end_read n k content below ∙ zero (n + k) (omega arith) (omega (arith, below)) ∙ sym (end_zero n k below)))),
)
