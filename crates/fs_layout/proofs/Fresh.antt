-- There is a consistent image: that of a new disk of 1024 sectors and 64 inodes, before it has a root.
use Rattle.std.proofs.Common.{◌≡◌, ◌≢◌, ℕ, suc, ◌+◌, ◌-◌, ◌/◌, ◌%◌, ◌<◌, ◌≤◌}
use Rattle.std.proofs.Common.{false, cond, List, ◌∷◌, ◌++◌, length, replicate, get_or, refl, sym, ap, subst, ◌∙◌, arith, inl, inr, ◌⊎◌, ◌↔◌, IsTrue, nat_eq}
use Rattle.std.specs.Int.{bit_at}
use Rattle.std.proofs.lemmas.Bool.{cases_eq, cases_lt, ne_eqb}
use Rattle.std.proofs.lemmas.List.{get_or_append_left, get_or-append_right, get_or-replicate, get_or_past, length-append, length-replicate}
use Rattle.std.proofs.lemmas.Nat.Bits.{bit_at_ones, bit_at_ones_above, bit_at-zero}
use Rattle.fs_layout.specs.declared.geometry.Geometry.{Geometry}
use Rattle.fs_layout.specs.Bytes.{SectorMap, IsBytes, IsSector, zeros}
use Rattle.fs_layout.specs.declared.version.Version.TheVariants.{Two}
use Rattle.fs_layout.specs.Geometry.{IsGeometry, laid_out, allows_header, geometry_in}
use Rattle.fs_layout.proofs.Places.{is_a_geometry}
use Rattle.fs_layout.specs.Images.{bit, free_sectors, inode_at}
use Rattle.fs_layout.specs.Ownership.{IsConsistent}
use Rattle.fs_layout.proofs.SplicedBytes.{get_or-zeros, IsSector-zeros}
use Rattle.fs_layout.proofs.Bits.{not_both, free_sectors_all}
use Rattle.fs_layout.proofs.Writes.{length-zeros}
use Rattle.fs_layout.proofs.Free.{HasNoSector, free_where_zeros, free_has_no_sector, owns_nothing, consistent_without_owners}

-- ---- bytes in four parts
-- 255 a times, x, 0 b times, 255 c times
parts : ℕ → ℕ → ℕ → ℕ → List ℕ
parts a x b c = replicate a 255 ++ (x ∷ (zeros b ++ replicate c 255))

length-parts : (a x b c : ℕ) → length (parts a x b c) ≡ a + 1 + b + c
unfolding parts
length-parts a x b c =
    omega (
      arith,
      length-append (replicate a 255) (x ∷ (zeros b ++ replicate c 255)),
      length-append (zeros b) (replicate c 255),
      length-zeros b,
      length-replicate {A = ℕ} a 255,
      length-replicate {A = ℕ} c 255,
    )

first_part : (a x b c i : ℕ) → i < a → get_or (parts a x b c) i 0 ≡ 255
unfolding parts
first_part a x b c i lt =
    get_or_append_left (replicate a 255) (x ∷ (zeros b ++ replicate c 255)) 0 i (omega (arith, lt, length-replicate {A = ℕ} a 255)) ∙ get_or-replicate a i 255 0 lt

behind : (a x b c i : ℕ) → a ≤ i → get_or (parts a x b c) i 0 ≡ get_or (x ∷ (zeros b ++ replicate c 255)) (i - a) 0
unfolding parts
behind a x b c i ge = get_or-append_right (replicate a 255) (x ∷ (zeros b ++ replicate c 255)) a i 0 (length-replicate {A = ℕ} a 255) ge

one_byte : (a x b c : ℕ) → get_or (parts a x b c) a 0 ≡ x
one_byte a x b c =
    let k : a - a ≡ 0 = omega arith in
    behind a x b c a (omega arith) ∙ ap (λ (j : ℕ). get_or (x ∷ (zeros b ++ replicate c 255)) j 0) k

behind_one : (a x b c i : ℕ) → a < i → get_or (parts a x b c) i 0 ≡ get_or (zeros b ++ replicate c 255) (i - a - 1) 0
behind_one a x b c i gt =
    let k : i - a ≡ suc (i - a - 1) = omega arith in
    behind a x b c i (omega arith) ∙ ap (λ (j : ℕ). get_or (x ∷ (zeros b ++ replicate c 255)) j 0) k

middle_part : (a x b c i : ℕ) → a < i → i < a + 1 + b → get_or (parts a x b c) i 0 ≡ 0
middle_part a x b c i gt lt =
    behind_one a x b c i gt ∙ get_or_append_left (zeros b) (replicate c 255) 0 (i - a - 1) (omega (arith, gt, lt, length-zeros b)) ∙ get_or-zeros b (i - a - 1)

last_part : (a x b c i : ℕ) → a + 1 + b ≤ i → i < a + 1 + b + c → get_or (parts a x b c) i 0 ≡ 255
last_part a x b c i ge lt =
    behind_one a x b c i (omega arith) ∙ get_or-append_right (zeros b) (replicate c 255) b (i - a - 1) 0 (length-zeros b) (omega arith)
    ∙ get_or-replicate c (i - a - 1 - b) 255 0 (omega arith)

-- ---- the image
-- the block bitmap: bits 0 to 145 and from 1024 on are set
full_ends : List ℕ
full_ends = parts 18 3 109 384

pub fresh : SectorMap
fresh s = cond (nat_eq s 129) full_ends (zeros 512)

at_map : fresh 129 ≡ full_ends
unfolding fresh
at_map = refl

elsewhere : (s : ℕ) → s ≢ 129 → fresh s ≡ zeros 512
unfolding fresh
elsewhere s ne = rw (ne_eqb s 129 ne) refl

-- the byte that stands in the bitmap for bit s
bit_is : (s x : ℕ) → s < 4096 → get_or full_ends (s / 8) 0 ≡ x → bit fresh 129 s ≡ nat_eq (bit_at x (s % 8)) 1
unfolding bit
bit_is s x lt e =
    let sector : 129 + s / 4096 ≡ 129 = omega arith in
    let byte : s % 4096 / 8 ≡ s / 8 = omega arith in
    ap (λ (k : ℕ). nat_eq (bit_at k (s % 8)) 1)
    (ap (λ (q : ℕ). get_or (fresh q) (s % 4096 / 8) 0) sector ∙ ap (λ (r : List ℕ). get_or r (s % 4096 / 8) 0) at_map ∙ ap (λ (j : ℕ). get_or full_ends j 0) byte ∙ e)

set_in : (s x : ℕ) → s < 4096 → get_or full_ends (s / 8) 0 ≡ x → bit_at x (s % 8) ≡ 1 → IsTrue (bit fresh 129 s)
set_in s x lt e one = bit_is s x lt e ∙ ap (λ (k : ℕ). nat_eq k 1) one

clear_in : (s x : ℕ) → s < 4096 → get_or full_ends (s / 8) 0 ≡ x → bit_at x (s % 8) ≡ 0 → bit fresh 129 s ≡ false
clear_in s x lt e none = bit_is s x lt e ∙ ap (λ (k : ℕ). nat_eq k 1) none

first_set : (s : ℕ) → s < 146 → IsTrue (bit fresh 129 s)
unfolding full_ends
first_set s lt = elim (cases_lt s 144) [
  | inl low ↦ set_in s 255 (omega arith) (first_part 18 3 109 384 (s / 8) (omega arith)) (bit_at_ones 8 (s % 8) (omega arith))
  | inr ge ↦
      let k : s / 8 ≡ 18 = omega arith in
      set_in s 3 (omega arith) (ap (λ (j : ℕ). get_or full_ends j 0) k ∙ one_byte 18 3 109 384) (bit_at_ones 2 (s % 8) (omega arith))
]

middle_clear : (s : ℕ) → 146 ≤ s → s < 1024 → bit fresh 129 s ≡ false
unfolding full_ends
middle_clear s ge lt = elim (cases_lt s 152) [
  | inl low ↦
      let k : s / 8 ≡ 18 = omega arith in
      clear_in s 3 (omega arith) (ap (λ (j : ℕ). get_or full_ends j 0) k ∙ one_byte 18 3 109 384) (bit_at_ones_above 2 (s % 8) (omega arith))
  | inr high ↦ clear_in s 0 (omega arith) (middle_part 18 3 109 384 (s / 8) (omega arith) (omega arith)) (bit_at-zero (s % 8))
]

last_set : (s : ℕ) → 1024 ≤ s → s < 4096 → IsTrue (bit fresh 129 s)
unfolding full_ends
last_set s ge lt = set_in s 255 lt (last_part 18 3 109 384 (s / 8) (omega arith) (omega arith)) (bit_at_ones 8 (s % 8) (omega arith))

ends_set : (s : ℕ) → s < 4096 → IsTrue (bit fresh 129 s) ↔ ((s < 146) ⊎ (1024 ≤ s))
ends_set s lt = (where_set, is_set)
  where
    where_set : IsTrue (bit fresh 129 s) → (s < 146) ⊎ (1024 ≤ s)
    where_set t = elim (cases_lt s 146) [
      | inl low ↦ inl low
      | inr ge ↦ elim (cases_lt s 1024) [ inl less ↦ absurd (not_both t (middle_clear s ge less)) | inr past ↦ inr past ]
    ]

    is_set : (s < 146) ⊎ (1024 ≤ s) → IsTrue (bit fresh 129 s)
    is_set (inl low) = first_set s low
    is_set (inr past) = last_set s past lt

-- ---- it is consistent
full_ends_small : IsBytes full_ends
unfolding full_ends
full_ends_small i = elim (cases_lt i 18) [
  | inl low ↦ let e = first_part 18 3 109 384 i low in omega (arith, e)
  | inr ge ↦ elim (cases_eq i 18) [
    | inl e ↦ let f = ap (λ (j : ℕ). get_or (parts 18 3 109 384) j 0) e ∙ one_byte 18 3 109 384 in omega (arith, f)
    | inr ne ↦ elim (cases_lt i 128) [
      | inl less ↦ let e = middle_part 18 3 109 384 i (omega arith) (omega arith) in omega (arith, e)
      | inr past ↦ elim (cases_lt i 512) [
        | inl within ↦ let e = last_part 18 3 109 384 i (omega arith) (omega arith) in omega (arith, e)
        | inr out ↦ let e = get_or_past (parts 18 3 109 384) i 0 (omega (arith, out, length-parts 18 3 109 384)) in omega (arith, e)
      ]
    ]
  ]
]

full_ends_whole : IsSector full_ends
unfolding full_ends
full_ends_whole = record { len = length-parts 18 3 109 384; bytes = full_ends_small }

pub small_disk : Geometry
small_disk = laid_out Two 1024 64

small_disk_is_geometry : IsGeometry small_disk
unfolding small_disk geometry_in allows_header
small_disk_is_geometry = is_a_geometry Two 0 1024 64 refl

-- the image of a new disk is consistent
pub fresh_is_consistent : IsConsistent small_disk fresh
unfolding small_disk
fresh_is_consistent =
    consistent_without_owners small_disk fresh small_disk_is_geometry
    (λ s past low. elim (cases_eq s 129) [
      | inl e ↦ subst (λ (q : ℕ). IsSector (fresh q)) (sym e) (subst IsSector (sym at_map) full_ends_whole)
      | inr ne ↦ subst IsSector (sym (elsewhere s ne)) IsSector-zeros
    ])
    (λ n lt. (free_where_zeros small_disk fresh n (elsewhere (130 + n / 4) (omega arith))).1)
    (λ n s lt o. owns_nothing fresh (inode_at small_disk fresh n) s
    (subst HasNoSector (sym (free_where_zeros small_disk fresh n (elsewhere (130 + n / 4) (omega arith))).0) free_has_no_sector) o)
    ends_set

-- and 878 sectors of it are free
pub fresh_free_sectors : free_sectors small_disk fresh ≡ 878
unfolding small_disk
fresh_free_sectors = free_sectors_all small_disk fresh (λ s at. middle_clear s at.0 at.1)
