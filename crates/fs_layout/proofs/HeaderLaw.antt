-- Targets that are read from the bytes of header sectors and written into them.
use Rattle.std.proofs.Common.{◌≡◌, ℕ, ◌+◌, ◌*◌, ◌^◌, ◌<◌, ◌≤◌, List, ◌++◌, length, take, drop, get_or, min, sym, ap, ◌∙◌, inl, inr, arith}
use Rattle.std.proofs.lemmas.List.{get_or_append_left, get_or_past, get_or-take, length-take, length-drop, length-take-le}
use Rattle.std.proofs.lemmas.Bool.{cases_lt}
use Rattle.std.proofs.lemmas.Grind.{common_steps}
use borrow.Rule.Slice.PartMut.{put_mid, mid_of}
use Rattle.fs_layout.specs.Bytes.{splice, le32s, u32_of, u32s_of}
use Rattle.fs_layout.proofs.CommitLaw.{get_or-u32s_of}
use Rattle.fs_layout.proofs.Fields.{read32s}
use Rattle.fs_layout.proofs.Small.{u32s_len}

-- a number of the part that was read
pub read_at : (count at k w i : ℕ) (old new from : List ℕ) → at + k ≤ length old → w ≡ k → new ≡ u32s_of from 0 (length (mid_of at w old)) → i < k → at + i < count
    → get_or (take count (put_mid at w old new)) (at + i) 0 ≡ u32_of from (4 * i)
read_at count at k w i old new from room wide is lt within =
    let here : length (mid_of at w old) ≡ k = ap (λ (n : ℕ). length (mid_of at n old)) wide ∙ length-take-le k (drop at old) (omega (arith, room, length-drop at old)) in
    let read : new ≡ u32s_of from 0 k = is ∙ ap (u32s_of from 0) here in
    let len : length new ≡ k = ap length read ∙ u32s_len from 0 k in
    get_or-take count (put_mid at w old new) (at + i) 0 within
    ∙ in_part at w k i old new room len lt
    ∙ ap (λ (l : List ℕ). get_or l i 0) read ∙ get_or-u32s_of from 0 k i lt ∙ ap (u32_of from) (omega arith)
  where
    in_part : (at w k i : ℕ) (old new : List ℕ) → at + k ≤ length old → length new ≡ k → i < k → get_or (put_mid at w old new) (at + i) 0 ≡ get_or new i 0
    in_part at w k i old new room len lt = grind (arith, common_steps)

-- as many are read as there are places
all_read : (at k w : ℕ) (old new from : List ℕ) → at + k ≤ length old → w ≡ k
    → new ≡ u32s_of from 0 (length (mid_of at w old)) → length new ≡ k
all_read at k w old new from room wide is =
    let here : length (mid_of at w old) ≡ k =
    ap (λ (n : ℕ). length (mid_of at n old)) wide
    ∙ length-take-le k (drop at old) (omega (arith, room, length-drop at old)) in
    ap length is ∙ u32s_len from 0 (length (mid_of at w old)) ∙ here

-- how many there are stays
pub read_count : (count at k w : ℕ) (old new from : List ℕ) → at + k ≤ length old → w ≡ k
    → new ≡ u32s_of from 0 (length (mid_of at w old))
    → length (take count (put_mid at w old new)) ≡ length (take count old)
read_count count at k w old new from room wide is =
    let all = all_read at k w old new from room wide is in
    let same : length (put_mid at w old new) ≡ length old = whole at w k old new room wide all in
    length-take count (put_mid at w old new) ∙ ap (min count) same ∙ sym (length-take count old)
  where
    whole : (at w k : ℕ) (old new : List ℕ) → at + k ≤ length old → w ≡ k → length new ≡ k
        → length (put_mid at w old new) ≡ length old
    whole at w k old new room wide len = grind (arith, common_steps)

-- a number before the part that was read
pub read_before : (count at w i : ℕ) (old new : List ℕ) → at ≤ length old → i < at
    → get_or (take count (put_mid at w old new)) i 0 ≡ get_or (take count old) i 0
read_before count at w i old new room low = elim (cases_lt i count) [
  | inl lt ↦
      get_or-take count (put_mid at w old new) i 0 lt ∙ front at w i old new room low
      ∙ sym (get_or-take count old i 0 lt)
  | inr past ↦ none count i (put_mid at w old new) past ∙ sym (none count i old past)
]
  where
    front : (at w i : ℕ) (old new : List ℕ) → at ≤ length old → i < at
        → get_or (put_mid at w old new) i 0 ≡ get_or old i 0
    front at w i old new room low = grind (arith, common_steps)

    none : (count i : ℕ) (l : List ℕ) → count ≤ i → get_or (take count l) i 0 ≡ 0
    none count i l past = get_or_past (take count l) i 0 (omega (arith, past, length-take count l))

-- numbers that were written from the first byte on
pub written_numbers : (old new xs : List ℕ) (k : ℕ) → new ≡ splice old 0 (le32s xs) → ((i : ℕ) → get_or xs i 0 < 2 ^ 32) → k < length xs
    → u32_of new (4 * k) ≡ get_or xs k 0
unfolding splice
written_numbers old new xs k is small lt =
    let rest = drop (0 + length (le32s xs)) old in
    ap (u32_of new) (omega arith) ∙ sym (get_or-u32s_of new 0 (length xs) k lt)
    ∙ ap (λ (l : List ℕ). get_or l k 0) (read32s xs new 0 rest is small)

-- a number of those that were read first
pub read_first : (count i : ℕ) (new rest from : List ℕ) → new ≡ u32s_of from 8 126 → i < 126 → i < length (take count (new ++ rest)) → get_or (take count (new ++ rest)) i 0 ≡ u32_of from (8 + 4 * i)
read_first count i new rest from is low lt =
    let len : length new ≡ 126 = ap length is ∙ u32s_len from 8 126 in
    get_or-take count (new ++ rest) i 0 (omega (arith, lt, length-take count (new ++ rest)))
    ∙ get_or_append_left new rest 0 i (omega (arith, low, len)) ∙ ap (λ (l : List ℕ). get_or l i 0) is ∙ get_or-u32s_of from 8 126 i low
