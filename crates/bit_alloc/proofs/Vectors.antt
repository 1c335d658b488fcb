-- The lanes of a vector as words of the bytes that it was read from, and the test of all of them at once.
use Rattle.std.proofs.Common.{◌≡◌, ℕ, zero, suc, ◌+◌, ◌*◌, ◌-◌, ◌%◌, ◌^◌, ◌<◌, ◌≤◌, Bool, not, cond, eqb, List, [], ◌∷◌, map, length, get_or, replicate, drop, refl, sym, ap, ap₂, ◌∙◌, arith, w64}
use Rattle.std.specs.Prelude.{IsTrue}
use Rattle.std.specs.List.{prefix_len}
use Rattle.std.specs.Simd.Lanes.{Each1, zip2, chunk, top, mask_l, number_l, digits_l}
use Rattle.std.proofs.lemmas.Bool.{eqb-true, not-true, not-false}
use Rattle.std.proofs.lemmas.List.{get_or-drop}
use Rattle.std.proofs.lemmas.List.Sums.{prefix_len_passes}
use Rattle.std.proofs.lemmas.Simd.{bitmask_splat, leading_from_mask_l, length-chunk, get_or-chunk, get_or_wider, Each1-chunk, Each1-from_get_or}
use Rattle.byteorder.specs.Endian.{little_from}
use Rattle.byteorder.specs.Numbers.{little_from-cons}
use Rattle.fs_layout.specs.Bytes.{IsBytes, u64_of}

-- same bytes, same number
number_same : (n i j : ℕ) (xs ys : List ℕ) → ((m : ℕ) → m < n → get_or xs (i + m) 0 ≡ get_or ys (j + m) 0) → little_from i n xs ≡ little_from j n ys
number_same zero i j xs ys same = refl
number_same (suc n) i j xs ys same =
    let from : i + 0 ≡ i = omega arith in
    let to : j + 0 ≡ j = omega arith in
    let first : get_or xs i 0 ≡ get_or ys j 0 = ap (λ (m : ℕ). get_or xs m 0) (sym from) ∙ same 0 (omega arith) ∙ ap (λ (m : ℕ). get_or ys m 0) to in
    let rest : little_from (suc i) n xs ≡ little_from (suc j) n ys =
    number_same n (suc i) (suc j) xs ys (λ m lt.
    let left : suc i + m ≡ i + suc m = omega arith in
    let right : j + suc m ≡ suc j + m = omega arith in
    ap (λ (k : ℕ). get_or xs k 0) left ∙ same (suc m) (omega arith) ∙ ap (λ (k : ℕ). get_or ys k 0) right) in
    ap₂ (λ (a b : ℕ). a + 256 * b) first rest

-- the number of all bytes of a list
number_whole : (xs : List ℕ) → number_l 256 xs ≡ little_from 0 (length xs) xs
number_whole [] = refl
number_whole (x ∷ xs) = ap (λ (n : ℕ). x + 256 * n) (number_whole xs ∙ sym (little_from-cons 0 (length xs) x xs))

-- lane j of the 64 bytes from 64 k on is word 8 k + j
pub lane_is_word : (s : List ℕ) → IsBytes s → (k j : ℕ) → j < 8 → 64 * k + 64 ≤ length s
    → get_or (digits_l (2 ^ 64) 8 (number_l 256 (chunk (64 * k) 64 s))) j 0 ≡ u64_of s (8 * (8 * k + j))
unfolding u64_of
lane_is_word s bytes k j lt room =
    let v : List ℕ = chunk (64 * k) 64 s in
    let part : List ℕ = chunk (8 * j) 8 v in
    let long : length v ≡ 64 = length-chunk (64 * k) 64 s room in
    let size : length part ≡ 8 = length-chunk (8 * j) 8 v (omega arith) in
    let small : Each1 (λ x. x < 256) v = Each1-chunk (λ x. x < 256) (64 * k) 64 s (Each1-from_get_or (λ x. x < 256) s 0 (λ i to. bytes i)) in
    get_or_wider 256 8 (2 ^ 64) 8 v j refl small lt ∙ number_whole part ∙ ap (λ (n : ℕ). little_from 0 n part) size
    ∙ number_same 8 0 0 part (drop (8 * (8 * k + j)) s) (λ m to.
    let start : 0 + m ≡ m = omega arith in
    let place : 64 * k + (8 * j + m) ≡ 8 * (8 * k + j) + (0 + m) = omega arith in
    ap (λ (i : ℕ). get_or part i 0) start ∙ get_or-chunk (8 * j) 8 v m 0 to ∙ get_or-chunk (64 * k) 64 s (8 * j + m) 0 (omega arith)
    ∙ ap (λ (i : ℕ). get_or s i 0) place ∙ sym (get_or-drop (8 * (8 * k + j)) s (0 + m) 0))

-- where no lane is told to differ from x, each lane is x
pub none_differs : (v : List ℕ) (n x : ℕ) → length v ≡ n → n ≤ 64
    → IsTrue (not (not (eqb (mask_l (map (top 63) (zip2 (λ a b. cond (not (eqb a b)) (2 ^ 64 - 1) 0) v (replicate n x))) % 2 ^ 64) 0)))
    → (j : ℕ) → j < n → get_or v j 0 ≡ x
none_differs v n x long few none j lt =
    let differs : ℕ → Bool = λ a. not (eqb a x) in
    let empty : mask_l (map differs v) ≡ 0 = sym (bitmask_splat w64 (λ a b. not (eqb a b)) v n x long few) ∙ eqb-true _ 0 (not-false _ (not-true _ none)) in
    let run : prefix_len (λ a. not (differs a)) v ≡ length v = leading_from_mask_l differs v empty in
    eqb-true (get_or v j 0) x (not-false _ (not-true _ (prefix_len_passes (λ a. not (differs a)) v j 0 (omega (arith, run, long, lt)))))
