-- What is known of the clear bits of sectors, as counts come and go.
use Rattle.std.proofs.Common.{◌≡◌, ◌≢◌, ℕ, ◌+◌, ◌*◌, ◌-◌, ◌<◌, ◌≤◌, ◌⊎◌, List, Option, None, Some, get_or, length, replicate, refl, sym, subst, ap, ◌∙◌, arith, inl, inr}
use Rattle.std.specs.Prelude.{IfSome, set, count_by}
use Rattle.std.specs.List.{range_with_len}
use Rattle.std.proofs.lemmas.Bool.{cases_eq, cases_lt, cond_below, cond_above}
use Rattle.std.proofs.lemmas.List.{get_or_past, get_or-replicate, get_or-set_same, get_or-set_other, length-replicate}
use Rattle.fs_layout.specs.declared.geometry.Geometry.{Geometry}
use Rattle.fs_layout.specs.Bytes.{SectorMap}
use Rattle.fs_layout.specs.Geometry.{IsGeometry}
use Rattle.fs_layout.specs.Header.{log_end}
use Rattle.fs_layout.specs.Images.{bit}
use Rattle.sector_txn.specs.Sectors.{TxnState, IsUnchanged}
use Rattle.bit_alloc.specs.declared.bitmap.Bitmap.{Bitmap}
use Rattle.bit_alloc.specs.declared.bitmap.Bitmap.TheVariants.{Inodes, Blocks}
use Rattle.bit_alloc.specs.Bitmaps.{first_sector, bit_count}
use Rattle.bit_alloc.specs.Bits.{clear_below}
use Rattle.bit_alloc.proofs.Words.{rest_clear}
use Rattle.free_counts.specs.Known.{CountList, count_known, TellsClear}

-- what the set bits leave is clear
pub clear_left : (s : List ℕ) (n m ones : ℕ) → m ≡ n → count_by (bit (λ _. s) 0) (range_with_len 0 m) ≡ ones → n - ones ≡ clear_below (λ _. s) 0 n
clear_left s n m ones is counted =
    ap (λ (k : ℕ). n - k) (sym counted ∙ ap (λ (k : ℕ). count_by (bit (λ _. s) 0) (range_with_len 0 k)) is) ∙ sym (rest_clear s n)

-- nothing is known of a sector in front
pub known_before : (list : CountList) (n : ℕ) → n < list.first → count_known list n ≡ None
unfolding count_known
known_before list n lt = sym (cond_below n list.first None (get_or list.counts (n - list.first) None) lt)

-- of another one what the list has
pub known_at : (list : CountList) (n : ℕ) → list.first ≤ n → count_known list n ≡ get_or list.counts (n - list.first) None
unfolding count_known
known_at list n le = sym (cond_above n list.first None (get_or list.counts (n - list.first) None) _ le refl)

-- nothing of one past its end
pub known_past : (list : CountList) (n : ℕ) → list.first ≤ n → length list.counts ≤ n - list.first → count_known list n ≡ None
known_past list n le past = known_at list n le ∙ get_or_past list.counts (n - list.first) None past

-- nothing at first
pub none_known : (first k n : ℕ) → count_known (record { first = first; counts = replicate k None }) n ≡ None
none_known first k n =
    let none : Option ℕ = None in
    let list : CountList = record { first = first; counts = replicate k none } in
    elim (cases_lt n first) [
      | inl lt ↦ known_before list n lt
      | inr le ↦ elim (cases_lt (n - first) k) [
        | inl within ↦ known_at list n le ∙ get_or-replicate k (n - first) none none within
        | inr past ↦ known_past list n le (omega (arith, length-replicate k none, past))
      ]
    ]

-- a copy of None is None
pub none_alone : (R : Option ℕ → Type 0) → ((k : ℕ) → R (Some k) → ⊥) → (c : Option ℕ) → R c → c ≡ None
none_alone R other None is = refl
none_alone R other (Some k) is = absurd (other k is)

-- where one count is written, it is known, and the others are as they were
module _ (first : ℕ) (counts : List (Option ℕ)) (n : ℕ) (count : Option ℕ) (from : first ≤ n) (within : n - first < length counts) where
  pub known_here : count_known (record { first = first; counts = set counts (n - first) count }) n ≡ count
  known_here = known_at (record { first = first; counts = set counts (n - first) count }) n from ∙ get_or-set_same counts (n - first) count None within

  pub known_elsewhere : (m : ℕ) → m ≢ n → count_known (record { first = first; counts = set counts (n - first) count }) m
      ≡ count_known (record { first = first; counts = counts }) m
  known_elsewhere m other =
      let new : CountList = record { first = first; counts = set counts (n - first) count } in
      let old : CountList = record { first = first; counts = counts } in
      elim (cases_lt m first) [
        | inl lt ↦ known_before new m lt ∙ sym (known_before old m lt)
        | inr le ↦ known_at new m le ∙ get_or-set_other counts (n - first) (m - first) count None (λ is. other (omega (arith, is, le, from))) ∙ sym (known_at old m le)
      ]

-- a count of sector n, or none, in the place of what was known
pub tells_set : (header : ℕ) (map : SectorMap) (old new : CountList) (n : ℕ) (count : Option ℕ) → IfSome count (λ k. k ≡ clear_below (λ _. map n) 0 4096)
    → (count_known new n ≡ count) ⊎ (count_known new n ≡ None) → ((m : ℕ) → m ≢ n → count_known new m ≡ count_known old m)
    → TellsClear header map old → TellsClear header map new
tells_set header map old new n count right here others told = λ m past. elim (cases_eq m n) [
  | inl is ↦ subst (λ (i : ℕ). IfSome (count_known new i) (λ k. k ≡ clear_below (λ _. map i) 0 4096)) (sym is) (elim here [
    | inl some ↦ subst (λ (c : Option ℕ). IfSome c (λ k. k ≡ clear_below (λ _. map n) 0 4096)) (sym some) right
    | inr none ↦ subst (λ (c : Option ℕ). IfSome c (λ k. k ≡ clear_below (λ _. map n) 0 4096)) (sym none) tt
  ])
  | inr other ↦ subst (λ (c : Option ℕ). IfSome c (λ k. k ≡ clear_below (λ _. map m) 0 4096)) (sym (others m other)) (told m past)
]

-- ---- where only reads were made
pub tells_after : {old new : TxnState} (list : CountList) → IsUnchanged old new → TellsClear old.header old.sectors list → TellsClear new.header new.sectors list
tells_after {old} {new} list same told = λ n past.
    subst (λ (s : List ℕ). IfSome (count_known list n) (λ k. k ≡ clear_below (λ _. s) 0 4096)) (sym (same.sectors n))
    (told n (subst (λ (h : ℕ). log_end h ≤ n) same.store.header past))

pub tells_before : {old new : TxnState} (list : CountList) → IsUnchanged old new → TellsClear new.header new.sectors list → TellsClear old.header old.sectors list
tells_before {old} {new} list same told = λ n past.
    subst (λ (s : List ℕ). IfSome (count_known list n) (λ k. k ≡ clear_below (λ _. s) 0 4096)) (same.sectors n)
    (told n (subst (λ (h : ℕ). log_end h ≤ n) (sym same.store.header) past))

-- sector k of a bitmap lies behind the log, on the disk
pub sector_within : (p : Geometry) (map : Bitmap) (k sectors : ℕ) → IsGeometry p → 4096 * sectors ≡ bit_count p map → k < sectors
    → (p.inode_bitmap ≤ first_sector p map + k) × (first_sector p map + k < p.sectors)
sector_within p Inodes k sectors geometry all lt =
    let bits = geometry.bits in
    let slots = geometry.slots in
    let some = geometry.least_sectors in
    let inodes = geometry.least_inodes in
    let behind = geometry.data_sectors in
    (omega arith, omega (arith, all, lt, bits, slots, some, inodes, behind))
sector_within p Blocks k sectors geometry all lt =
    let inode_bits = geometry.inode_bits in
    let slots = geometry.slots in
    let inodes = geometry.least_inodes in
    let behind = geometry.data_sectors in
    (omega (arith, inode_bits, inodes), omega (arith, all, lt, slots, inodes, behind))
