-- Clear bits, one more at a time.
use Rattle.std.specs.Prelude.{◌≡◌, ℕ, ◌+◌, ◌-◌, ◌≤◌, Bool, true, false, not, count_by}
use Rattle.std.proofs.Common.{sym, ap, arith, ◌∙◌}
use Rattle.std.specs.List.{range_with_len}
use Rattle.fs_layout.specs.Bytes.{SectorMap}
use Rattle.fs_layout.specs.Images.{bit}
use Rattle.fs_layout.proofs.Counting.{one_if, count_cons, count_split}
use Rattle.fs_info.specs.Infos.{clear_bits}

module _ (m : SectorMap) (start from n : ℕ) (low : from ≤ n) where
  one_more : clear_bits m start from (n + 1 - from) ≡ clear_bits m start from (n - from) + one_if (not (bit m start n))
  one_more =
      let f : ℕ → Bool = λ i. not (bit m start i) in
      let length : n + 1 - from ≡ n - from + 1 = omega (arith, low) in
      let here : from + (n - from) ≡ n = omega (arith, low) in
      let whole = ap (λ (k : ℕ). count_by f (range_with_len from k)) length ∙ count_split f from (n - from) 1 in
      let last : count_by f (range_with_len (from + (n - from)) 1) ≡ count_by f (range_with_len n 1) = ap (λ (k : ℕ). count_by f (range_with_len k 1)) here in
      let one : count_by f (range_with_len n 1) ≡ one_if (f n) + 0 = count_cons f n 0 in
      omega (arith, whole, last, one)

  pub clear_more : (k : ℕ) (b : Bool) → k ≡ clear_bits m start from (n - from) → b ≡ bit m start n → b ≡ false → k + 1 ≡ clear_bits m start from (n + 1 - from)
  unfolding one_if
  clear_more k b so_far is clear =
      let one : one_if (not (bit m start n)) ≡ 1 = ap (λ x. one_if (not x)) (sym is ∙ clear) in
      omega (arith, one_more, one, so_far)

  pub set_more : (k : ℕ) (b : Bool) → k ≡ clear_bits m start from (n - from) → b ≡ bit m start n → b ≡ true → k ≡ clear_bits m start from (n + 1 - from)
  unfolding one_if
  set_more k b so_far is set =
      let none : one_if (not (bit m start n)) ≡ 0 = ap (λ x. one_if (not x)) (sym is ∙ set) in
      omega (arith, one_more, none, so_far)
