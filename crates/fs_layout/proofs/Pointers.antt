-- One number of an inode's sectors changes: one that stands in the inode, one in a sector of pointers, or an ACL's.
use Rattle.std.proofs.Common.{◌≡◌, ◌≢◌, ℕ, zero, suc, ◌+◌, ◌-◌, ◌*◌, ◌^◌, ◌<◌, ◌≤◌, List, length, drop, get_or, set, refl, sym, ap, ◌∙◌, arith, inl, inr, ◌⊎◌}
use Rattle.std.proofs.lemmas.List.{get_or-set_same, get_or-set_other, get_or_past, drop-drop}
use Rattle.std.proofs.lemmas.Bool.{cases_eq, cases_lt, lt-ltb, le-ltb}
use Rattle.fs_layout.specs.declared.inode.TheConstants.{DIRECT_BLOCKS, POINTER_LEVELS, SECTOR_POINTERS}
use Rattle.fs_layout.specs.declared.inode.Inode.{Inode}
use Rattle.fs_layout.specs.Bytes.{SectorMap, splice, le32, zeros, u32_of}
use Rattle.fs_layout.specs.Images.{pointer_in, own_count, own_number, Level, levels, level_end, holder, place_in_holder, number_at, number_on, pointer, first_block, IsTrimmed}
use Rattle.fs_layout.specs.Images.{HasPointersAbove, number_in, Part, AccessAcl, DefaultAcl, OnLevel, Block, part}
use Rattle.fs_layout.specs.InodeChanges.{Turns, Gains, with_direct, with_indirect}
use Rattle.fs_layout.proofs.Levels.{entry_kept, entry_there, Alike-refl, AlikeBut, KeepsEntries, KeepsOtherEntries, numbers_alike, numbers_turned}
use Rattle.fs_layout.proofs.Parts.{KeepsPointers, entries_kept, number_on_alike}
use Rattle.fs_layout.proofs.Numbers.{are_numbers_32}
use Rattle.fs_layout.proofs.SplicedBytes.{u32_of-splice_other, u32_of-zeros}

-- ---- where a number stands
-- the first of a level stand in the inode
pub number_on_own : (image : SectorMap) (v : Inode) (level i : ℕ) → level ≤ POINTER_LEVELS → i < own_count level → number_on image v level i ≡ own_number v level i
unfolding number_on
number_on_own image v zero i le lt = rw (lt-ltb i DIRECT_BLOCKS lt) refl
number_on_own image v (suc zero) i le lt = rw (lt-ltb i 1 lt) refl
number_on_own image v (suc (suc zero)) i le lt = rw (lt-ltb i 1 lt) refl
number_on_own image v (suc (suc (suc zero))) i le lt = rw (lt-ltb i 1 lt) refl
number_on_own image v (suc (suc (suc (suc level)))) i le lt = absurd (omega (arith, le))

-- so those of the first blocks
pub pointer_direct : (image : SectorMap) (v : Inode) (k : ℕ) → k < DIRECT_BLOCKS → pointer image v k ≡ get_or v.direct k 0
pointer_direct image v k lt = number_on_own image v 0 k (omega arith) lt

-- and the first sector of pointers of each level
pub number_on_named : (image : SectorMap) (v : Inode) (level : ℕ) → level < POINTER_LEVELS → number_on image v (suc level) 0 ≡ get_or v.indirect level 0
number_on_named image v level lt = number_on_own image v (suc level) 0 (omega (arith, lt)) (omega arith)

-- there is no level above the highest
pub no_number_on : (image : SectorMap) (v : Inode) (level i : ℕ) → number_on image v (suc (suc (suc (suc level)))) i ≡ 0
unfolding number_on
no_number_on image v zero i = refl
no_number_on image v (suc level) i = refl

-- the others stand in a sector of pointers of the level above
pub number_on_held : (image : SectorMap) (v : Inode) (level i : ℕ) → own_count level ≤ i
    → number_on image v level i ≡ pointer_in image (number_on image v (suc level) (holder (own_count level) i)) (place_in_holder (own_count level) i)
unfolding number_on
number_on_held image v zero i ge = rw (le-ltb i DIRECT_BLOCKS ge) refl
number_on_held image v (suc zero) i ge = rw (le-ltb i 1 ge) refl
number_on_held image v (suc (suc zero)) i ge = rw (le-ltb i 1 ge) refl
number_on_held image v (suc (suc (suc zero))) i ge = rw (le-ltb i 1 ge) refl
number_on_held image v (suc (suc (suc (suc level)))) i ge =
    no_number_on image v level i ∙ sym (ap (λ (s : ℕ). pointer_in image s (place_in_holder 1 i)) (no_number_on image v (suc level) (holder 1 i)))

pub pointer_held : (image : SectorMap) (v : Inode) (k : ℕ) → DIRECT_BLOCKS ≤ k
    → pointer image v k ≡ pointer_in image (number_on image v 1 (holder DIRECT_BLOCKS k)) (place_in_holder DIRECT_BLOCKS k)
pointer_held image v k ge = number_on_held image v 0 k ge

-- ---- where numbers end
-- where those of the level above do, with all that stand in them
pub number_past_above : (image : SectorMap) (v : Inode) (level end : ℕ) → ((j : ℕ) → end ≤ j → number_on image v (suc level) j ≡ 0)
    → (i : ℕ) → own_count level + SECTOR_POINTERS * end ≤ i → number_on image v level i ≡ 0
number_past_above image v level end above i ge =
    number_on_held image v level i (omega (arith, ge))
    ∙ ap (λ (s : ℕ). pointer_in image s (place_in_holder (own_count level) i)) (above (holder (own_count level) i) (omega (arith, ge)))

-- so each level ends somewhere
pub number_past : (image : SectorMap) (v : Inode) (level i : ℕ) → level_end level ≤ i → number_on image v level i ≡ 0
number_past image v level = past level
  where
    highest : (i : ℕ) → 1 ≤ i → number_on image v 3 i ≡ 0
    highest i ge = number_past_above image v 3 0 (λ j from. no_number_on image v 0 j) i (omega (arith, ge))

    second : (i : ℕ) → level_end 2 ≤ i → number_on image v 2 i ≡ 0
    second i ge = number_past_above image v 2 1 highest i (omega (arith, ge))

    first : (i : ℕ) → level_end 1 ≤ i → number_on image v 1 i ≡ 0
    first i ge = number_past_above image v 1 (level_end 2) second i (omega (arith, ge))

    past : (n i : ℕ) → level_end n ≤ i → number_on image v n i ≡ 0
    past zero i ge = number_past_above image v 0 (level_end 1) first i (omega (arith, ge))
    past (suc zero) i ge = first i ge
    past (suc (suc zero)) i ge = second i ge
    past (suc (suc (suc zero))) i ge = highest i ge
    past (suc (suc (suc (suc n)))) i ge = no_number_on image v n i

-- a level has no number where none stands in the inode nor in a sector of the level above
pub none_named : (image : SectorMap) (v : Inode) (level : ℕ) → level < POINTER_LEVELS → get_or v.indirect level 0 ≡ 0
    → ((j : ℕ) → number_on image v (suc (suc level)) j ≡ 0) → (i : ℕ) → number_on image v (suc level) i ≡ 0
none_named image v level lt none above i = elim (cases_eq i 0) [
  | inl e ↦ ap (number_on image v (suc level)) e ∙ number_on_named image v level lt ∙ none
  | inr ne ↦ number_past_above image v (suc level) 0 (λ j from. above j) i (omega (arith, ne))
]

-- a level has no number past those that the level above lists, where that has none from `end` on
pub number_past_next : (image : SectorMap) (v : Inode) (level end count : ℕ) → own_count level ≡ count → ((j : ℕ) → end ≤ j → number_on image v (level + 1) j ≡ 0)
    → (i : ℕ) → count + SECTOR_POINTERS * end ≤ i → number_on image v level i ≡ 0
number_past_next image v level end count own above i ge =
    let next : suc level ≡ level + 1 = omega arith in
    number_past_above image v level end (λ j from. ap (λ (n : ℕ). number_on image v n j) next ∙ above j from) i (omega (arith, own, ge))

pub none_on_next : (image : SectorMap) (v : Inode) (level end : ℕ) → level ≢ 0 → level ≤ POINTER_LEVELS → end ≡ 0 → get_or v.indirect (level - 1) 0 ≡ 0
    → ((j : ℕ) → end ≤ j → number_on image v (level + 1) j ≡ 0) → (i : ℕ) → number_on image v level i ≡ 0
none_on_next image v zero end ne le empty none above i = absurd (ne refl)
none_on_next image v (suc level) end ne le empty none above i =
    let own : suc level - 1 ≡ level = omega arith in
    let next : suc (suc level) ≡ suc level + 1 = omega arith in
    none_named image v level (omega (arith, le)) (sym (ap (λ (n : ℕ). get_or v.indirect n 0) own) ∙ none)
    (λ j. ap (λ (n : ℕ). number_on image v n j) next ∙ above j (omega (arith, empty))) i

-- of a level of sectors of pointers one number stands in the inode
pub own_count_above : (level : ℕ) → level ≢ 0 → own_count level ≡ 1
own_count_above zero ne = absurd (ne refl)
own_count_above (suc level) ne = refl

pub no_level : (image : SectorMap) (v : Inode) (level i : ℕ) → POINTER_LEVELS < level → number_on image v level i ≡ 0
no_level image v (suc (suc (suc (suc level)))) i gt = no_number_on image v level i
no_level image v zero i gt = absurd (omega (arith, gt))
no_level image v (suc zero) i gt = absurd (omega (arith, gt))
no_level image v (suc (suc zero)) i gt = absurd (omega (arith, gt))
no_level image v (suc (suc (suc zero))) i gt = absurd (omega (arith, gt))

-- where the inode names no sector of pointers, only direct blocks are there
pub no_pointers : (image : SectorMap) (v : Inode) → ((level : ℕ) → get_or v.indirect level 0 ≡ 0) → (level i : ℕ) → number_on image v (suc level) i ≡ 0
no_pointers image v none = on
  where
    third : (i : ℕ) → number_on image v 3 i ≡ 0
    third = none_named image v 2 (omega arith) (none 2) (no_number_on image v 0)

    second : (i : ℕ) → number_on image v 2 i ≡ 0
    second = none_named image v 1 (omega arith) (none 1) third

    on : (n i : ℕ) → number_on image v (suc n) i ≡ 0
    on zero i = none_named image v 0 (omega arith) (none 0) second i
    on (suc zero) i = second i
    on (suc (suc zero)) i = third i
    on (suc (suc (suc n))) i = no_number_on image v n i

pub pointer_without : (image : SectorMap) (v : Inode) (k : ℕ) → DIRECT_BLOCKS ≤ k → ((level : ℕ) → get_or v.indirect level 0 ≡ 0) → pointer image v k ≡ 0
pointer_without image v k ge none = number_past_above image v 0 0 (λ j from. no_pointers image v none 0 j) k (omega (arith, ge))

-- then there is no number past the size, where there is no such block
pub trims_direct : (image : SectorMap) (v : Inode) → ((k : ℕ) → v.size ≤ 512 * k → pointer image v k ≡ 0) → ((level : ℕ) → get_or v.indirect level 0 ≡ 0)
    → IsTrimmed image v
trims_direct image v blocks none zero i le = blocks i le
trims_direct image v blocks none (suc level) i le = no_pointers image v none level i

-- and where there is none, the inode names no sector of pointers for blocks past the size
pub trimmed_named : (image : SectorMap) (v : Inode) → length v.indirect ≡ POINTER_LEVELS → IsTrimmed image v → (level : ℕ)
    → v.size ≤ 512 * first_block (suc level) 0 → get_or v.indirect level 0 ≡ 0
trimmed_named image v len trim level le = elim (cases_lt level POINTER_LEVELS) [
  | inl lt ↦ sym (number_on_named image v level lt) ∙ trim (suc level) 0 le
  | inr ge ↦ get_or_past v.indirect level 0 (omega (arith, len, ge))
]

-- ---- by the content of a sector of pointers
number_own_in : (image : SectorMap) (v : Inode) (level : ℕ) (content : List ℕ) (i : ℕ) → length v.indirect ≡ POINTER_LEVELS → i < own_count level
    → number_in v level content i ≡ number_on image v level i
unfolding number_in
number_own_in image v level content i len lt = rw (lt-ltb i (own_count level) lt) (own level lt)
  where
    own : (n : ℕ) → i < own_count n → own_number v n i ≡ number_on image v n i
    own (suc (suc (suc (suc n)))) below = get_or_past v.indirect (suc (suc (suc n))) 0 (omega (arith, len)) ∙ sym (no_number_on image v n i)
    own zero below = sym (number_on_own image v 0 i (omega arith) below)
    own (suc zero) below = sym (number_on_own image v 1 i (omega arith) below)
    own (suc (suc zero)) below = sym (number_on_own image v 2 i (omega arith) below)
    own (suc (suc (suc zero))) below = sym (number_on_own image v 3 i (omega arith) below)

pub number_held_in : (v : Inode) (level : ℕ) (content : List ℕ) (i : ℕ) → own_count level ≤ i
    → number_in v level content i ≡ u32_of content (4 * place_in_holder (own_count level) i)
unfolding number_in
number_held_in v level content i ge = rw (le-ltb i (own_count level) ge) refl

-- two inodes with the same sectors
pub part_alike : (image : SectorMap) (v w : Inode) → w.acl ≡ v.acl → w.default_acl ≡ v.default_acl → levels w ≡ levels v → (a : Part)
    → part image w a ≡ part image v a
unfolding part
part_alike image v w acl default_acl same AccessAcl = acl
part_alike image v w acl default_acl same DefaultAcl = default_acl
part_alike image v w acl default_acl same (OnLevel level i) = number_on_alike image image v w same (λ n j some. refl) level i

-- ---- one number of a level
-- another level, or another number
apart_from : (n t i j : ℕ) → OnLevel n i ≢ OnLevel t j → (n ≢ t) ⊎ (i ≢ j)
apart_from n t i j ne = elim (cases_eq n t) [
  | inr away ↦ inl away
  | inl e ↦ elim (cases_eq i j) [
    | inr away ↦ inr away
    | inl f ↦ absurd (ne (ap (λ (x : ℕ). OnLevel x i) e ∙ ap (OnLevel t) f))
  ]
]

-- Number j of level t becomes y: the inodes are alike but for that number, which may stand in one of them; and the other sectors of
-- pointers keep their numbers, but for it.
pub record TurnsOnLevel (old new : SectorMap) (v w : Inode) (t j y : ℕ) : Type 0 where
  pub acl : w.acl ≡ v.acl
  pub default_acl : w.default_acl ≡ v.default_acl
  pub alike : AlikeBut t j (own_count t) (levels v) (levels w)
  pub kept : KeepsOtherEntries t j (own_count t) old new (levels v) (levels w)
  pub now : number_on new w t j ≡ y

other_on_level : {old new : SectorMap} {v w : Inode} {t j y : ℕ} → TurnsOnLevel old new v w t j y → (a : Part) → a ≢ OnLevel t j → part new w a ≡ part old v a
unfolding part number_on
other_on_level x AccessAcl ne = x.acl
other_on_level x DefaultAcl ne = x.default_acl
other_on_level {old} {new} {v} {w} {t} {j} x (OnLevel n i) ne = numbers_turned old new t j (own_count t) (levels v) (levels w) x.alike x.kept n i (apart_from n t i j ne)

pub turns_on_level : {old new : SectorMap} {v w : Inode} {t j x y : ℕ} → number_on old v t j ≡ x → TurnsOnLevel old new v w t j y → Turns old new v w (OnLevel t j) x y
unfolding part
turns_on_level was x = record { was = was; now = x.now; others = λ a ne. other_on_level x a ne }

-- ---- a direct pointer
-- a direct block becomes y
pub turns_direct : (old new : SectorMap) (v : Inode) (k x y : ℕ) → k < DIRECT_BLOCKS → length v.direct ≡ DIRECT_BLOCKS → pointer old v k ≡ x → KeepsPointers old new v
    → Turns old new v (with_direct v k y) (Block k) x y
turns_direct old new v k x y lt len was kept = turns_on_level was (record {
  acl = refl;
  default_acl = refl;
  alike = (refl, refl, λ i below ne. get_or-set_other v.direct k i y 0 ne, (refl, λ i below. refl, (refl, λ i below. refl, (refl, λ i below. refl, tt))));
  kept = record {
    below = λ n q e small. absurd (let z = e in omega (arith, z));
    same = λ n p q small f g. entries_kept old new v kept n p q small;
  };
  now = pointer_direct new (with_direct v k y) k lt ∙ get_or-set_same v.direct k y 0 (omega (arith, len));
})

-- ---- a number in a sector of pointers
-- Number i of a level is y in the sector of pointers that has it, which is the same otherwise, and so are the other sectors of
-- pointers.
pub record HasEntry (v : Inode) (level i y : ℕ) (old new : SectorMap) : Type 0 where
  pub from : own_count level ≤ i
  pub some : number_on old v (suc level) (holder (own_count level) i) ≢ 0
  pub len : length (old (number_on old v (suc level) (holder (own_count level) i))) ≡ 512
  pub fits : y < 2 ^ 32
  pub is : let s = number_on old v (suc level) (holder (own_count level) i) in
      new s ≡ splice (old s) (4 * place_in_holder (own_count level) i) (le32 y)
  pub others : (n p : ℕ) → (n ≢ level) ⊎ (p ≢ holder (own_count level) i) → number_on old v (suc n) p ≢ 0 → new (number_on old v (suc n) p) ≡ old (number_on old v (suc n) p)

-- another number of that sector
other_entry : {v : Inode} {level i y : ℕ} {old new : SectorMap} → HasEntry v level i y old new → (q : ℕ) → q < SECTOR_POINTERS
    → q ≢ place_in_holder (own_count level) i
    → let s = number_on old v (suc level) (holder (own_count level) i) in pointer_in new s q ≡ pointer_in old s q
other_entry {v} {level} {i} {y} {old} {new} h q small ne =
    let s = number_on old v (suc level) (holder (own_count level) i) in
    let at = place_in_holder (own_count level) i in
    let low : at < SECTOR_POINTERS = omega arith in
    entry_there new s q h.some
    ∙ ap (λ (r : List ℕ). u32_of r (4 * q)) h.is
    ∙ u32_of-splice_other (old s) (4 * at) (4 * q) y (omega (arith, h.len, low)) (omega (arith, h.len, small)) (beside at q ne)
    ∙ sym (entry_there old s q h.some)
  where
    beside : (at q : ℕ) → q ≢ at → (4 * q + 4 ≤ 4 * at) ⊎ (4 * at + 4 ≤ 4 * q)
    beside at q ne = elim (cases_lt q at) [ inl lt ↦ inl (omega arith) | inr ge ↦ inr (omega (arith, ge, ne)) ]

-- the number itself
put_entry : {v : Inode} {level i y : ℕ} {old new : SectorMap} → HasEntry v level i y old new
    → pointer_in new (number_on old v (suc level) (holder (own_count level) i)) (place_in_holder (own_count level) i) ≡ y
put_entry {v} {level} {i} {y} {old} {new} h =
    let s = number_on old v (suc level) (holder (own_count level) i) in
    let at = place_in_holder (own_count level) i in
    let low : at < SECTOR_POINTERS = omega arith in
    entry_there new s at h.some
    ∙ ap (λ (r : List ℕ). u32_of r (4 * at)) h.is
    ∙ are_numbers_32.read (old s) (4 * at) y (omega (arith, h.len, low)) h.fits

-- the number is what the sector of pointers at hand says
pub number_is : (image : SectorMap) (v : Inode) (level : ℕ) (content : List ℕ) (i : ℕ) → length v.indirect ≡ POINTER_LEVELS
    → HasPointersAbove image v level i content → number_in v level content i ≡ number_on image v level i
number_is image v level content i len h = elim (cases_lt i (own_count level)) [
  | inl lt ↦ number_own_in image v level content i len lt
  | inr ge ↦
      let s = number_on image v (suc level) (holder (own_count level) i) in
      let q = place_in_holder (own_count level) i in
      number_held_in v level content i ge
      ∙ elim (cases_eq s 0) [
        | inl none ↦ ap (λ (r : List ℕ). u32_of r (4 * q)) ((h ge).none none) ∙ u32_of-zeros 512 (4 * q) ∙ sym (ap (λ (t : ℕ). pointer_in image t q) none)
        | inr some ↦ ap (λ (r : List ℕ). u32_of r (4 * q)) ((h ge).is some) ∙ sym (entry_there image s q some)
      ]
      ∙ sym (number_on_held image v level i ge)
]

-- the other numbers in sectors of pointers
entry_same : {v : Inode} {level i y : ℕ} {old new : SectorMap} → HasEntry v level i y old new → (n p q : ℕ) → q < SECTOR_POINTERS
    → (n ≡ level → own_count level + SECTOR_POINTERS * p + q ≢ i)
    → pointer_in new (number_on old v (suc n) p) q ≡ pointer_in old (number_on old v (suc n) p) q
entry_same {v} {level} {i} {y} {old} {new} h n p q small ne = elim (cases_eq n level) [
  | inr away ↦ entry_kept old new (number_on old v (suc n) p) q (h.others n p (inl away))
  | inl e ↦ elim (cases_eq p (holder (own_count level) i)) [
    | inr away ↦ entry_kept old new (number_on old v (suc n) p) q (h.others n p (inr away))
    | inl f ↦
        let same : number_on old v (suc n) p ≡ number_on old v (suc level) (holder (own_count level) i) =
        ap (λ (m : ℕ). number_on old v (suc m) p) e ∙ ap (number_on old v (suc level)) f in
        let from = h.from in
        ap (λ (s : ℕ). pointer_in new s q) same
        ∙ other_entry h q small (λ g. ne e (omega (arith, from, f, g)))
        ∙ sym (ap (λ (s : ℕ). pointer_in old s q) same)
  ]
]

-- a number in a sector of pointers is one of a level that there is
alike_but : (image : SectorMap) (v : Inode) (t j : ℕ) → number_on image v (suc t) (holder (own_count t) j) ≢ 0 → AlikeBut t j (own_count t) (levels v) (levels v)
alike_but image v zero j some = (refl, refl, λ k lt ne. refl, (refl, λ k lt. refl, (refl, λ k lt. refl, (refl, λ k lt. refl, tt))))
alike_but image v (suc zero) j some = (refl, λ k lt. refl, (refl, refl, λ k lt ne. refl, (refl, λ k lt. refl, (refl, λ k lt. refl, tt))))
alike_but image v (suc (suc zero)) j some = (refl, λ k lt. refl, (refl, λ k lt. refl, (refl, refl, λ k lt ne. refl, (refl, λ k lt. refl, tt))))
alike_but image v (suc (suc (suc zero))) j some = absurd (some (no_number_on image v 0 (holder 1 j)))
alike_but image v (suc (suc (suc (suc t)))) j some = absurd (some (no_number_on image v (suc t) (holder 1 j)))

-- the numbers of the levels above are the same
above_same : {v : Inode} {level i y : ℕ} {old new : SectorMap} → HasEntry v level i y old new → (m p : ℕ) → level < m → number_on new v m p ≡ number_on old v m p
unfolding number_on
above_same {v} {level} {i} {y} {old} {new} h m p gt =
    numbers_alike old new (drop m (levels v)) (drop m (levels v)) (Alike-refl (drop m (levels v))) kept p
  where
    kept : KeepsEntries old new (drop m (levels v))
    kept n r q small =
        let next : m + suc n ≡ suc (n + m) = omega arith in
        let e : drop (suc n) (drop m (levels v)) ≡ drop (suc (n + m)) (levels v) = drop-drop (suc n) m (levels v) ∙ ap (λ (k : ℕ). drop k (levels v)) next in
        ap (λ (l : List Level). pointer_in new (number_at old l r) q) e
        ∙ entry_same h (n + m) r q small (λ z. absurd (omega (arith, z, gt)))
        ∙ sym (ap (λ (l : List Level). pointer_in old (number_at old l r) q) e)

-- so the number is y
pub entry_now : {v : Inode} {level i y : ℕ} {old new : SectorMap} → HasEntry v level i y old new → number_on new v level i ≡ y
entry_now {v} {level} {i} {y} {old} {new} h =
    number_on_held new v level i h.from
    ∙ ap (λ (s : ℕ). pointer_in new s (place_in_holder (own_count level) i)) (above_same h (suc level) (holder (own_count level) i) (omega arith))
    ∙ put_entry h

-- a number in a sector of pointers becomes y, where its sectors, old and new, have the same numbers, if it is one of pointers
pub turns_number : {v : Inode} {level i x y : ℕ} {old new : SectorMap} → HasEntry v level i y old new
    → (0 < level → (q : ℕ) → q < SECTOR_POINTERS → pointer_in new y q ≡ pointer_in old (number_on old v level i) q) → number_on old v level i ≡ x
    → Turns old new v v (OnLevel level i) x y
unfolding number_on
turns_number {v} {level} {i} {x} {y} {old} {new} h below was =
    turns_on_level was (record { acl = refl; default_acl = refl; alike = alike_but old v level i h.some; kept = kept; now = entry_now h })
  where
    kept : KeepsOtherEntries level i (own_count level) old new (levels v) (levels v)
    kept = record {
      below = λ n q e small.
          ap (λ (m : ℕ). pointer_in new (number_at new (drop m (levels v)) i) q) e
          ∙ ap (λ (s : ℕ). pointer_in new s q) (entry_now h)
          ∙ below (let z = e in omega (arith, z)) q small
          ∙ sym (ap (λ (m : ℕ). pointer_in old (number_at old (drop m (levels v)) i) q) e);
      same = λ n p q small f g. entry_same h n p q small g;
    }

-- so does a block
pub turns_entry : {v : Inode} {k x y : ℕ} {old new : SectorMap} → pointer old v k ≡ x → HasEntry v 0 k y old new → Turns old new v v (Block k) x y
turns_entry was h = turns_number h (λ lt. absurd (let z = lt in omega (arith, z))) was

-- ---- a sector of pointers that the inode names
-- another one is named in one level, and the other numbers that stand in the inode are the same
alike_named : (v : Inode) (level y : ℕ) → level < POINTER_LEVELS → AlikeBut (suc level) 0 1 (levels v) (levels (with_indirect v level y))
alike_named v zero y lt = (
  refl,
  λ k below. refl,
  (refl, refl, λ k below ne. absurd (omega (arith, below, ne)), (refl, λ k below. other 1 (omega arith), (refl, λ k below. other 2 (omega arith), tt))),
)
  where
    other : (n : ℕ) → n ≢ 0 → get_or (set v.indirect 0 y) n 0 ≡ get_or v.indirect n 0
    other n ne = get_or-set_other v.indirect 0 n y 0 ne
alike_named v (suc zero) y lt = (
  refl,
  λ k below. refl,
  (refl, λ k below. other 0 (omega arith), (refl, refl, λ k below ne. absurd (omega (arith, below, ne)), (refl, λ k below. other 2 (omega arith), tt))),
)
  where
    other : (n : ℕ) → n ≢ 1 → get_or (set v.indirect 1 y) n 0 ≡ get_or v.indirect n 0
    other n ne = get_or-set_other v.indirect 1 n y 0 ne
alike_named v (suc (suc zero)) y lt = (
  refl,
  λ k below. refl,
  (refl, λ k below. other 0 (omega arith), (refl, λ k below. other 1 (omega arith), (refl, refl, λ k below ne. absurd (omega (arith, below, ne)), tt))),
)
  where
    other : (n : ℕ) → n ≢ 2 → get_or (set v.indirect 2 y) n 0 ≡ get_or v.indirect n 0
    other n ne = get_or-set_other v.indirect 2 n y 0 ne
alike_named v (suc (suc (suc level))) y lt = absurd (omega (arith, lt))

-- the named sector becomes y, where both have the same numbers
turns_named : (old new : SectorMap) (v : Inode) (level y : ℕ) → level < POINTER_LEVELS → length v.indirect ≡ POINTER_LEVELS → {x : ℕ} → get_or v.indirect level 0 ≡ x
    → KeepsPointers old new v → ((q : ℕ) → q < SECTOR_POINTERS → pointer_in new y q ≡ pointer_in old (get_or v.indirect level 0) q)
    → Turns old new v (with_indirect v level y) (OnLevel (suc level) 0) x y
unfolding number_on
turns_named old new v level y lt len was kept same = turns_on_level (number_on_named old v level lt ∙ was) (record {
  acl = refl;
  default_acl = refl;
  alike = alike_named v level y lt;
  kept = record { below = below; same = λ n p q small f g. entries_kept old new v kept n p q small };
  now = named;
})
  where
    named : number_on new (with_indirect v level y) (suc level) 0 ≡ y
    named = number_on_named new (with_indirect v level y) level lt ∙ get_or-set_same v.indirect level y 0 (omega (arith, len, lt))

    below : (n q : ℕ) → suc n ≡ suc level → q < SECTOR_POINTERS
        → pointer_in new (number_at new (drop (suc n) (levels (with_indirect v level y))) 0) q ≡ pointer_in old (number_at old (drop (suc n) (levels v)) 0) q
    below n q e small =
        ap (λ (m : ℕ). pointer_in new (number_at new (drop m (levels (with_indirect v level y))) 0) q) e
        ∙ ap (λ (s : ℕ). pointer_in new s q) named
        ∙ same q small
        ∙ sym (ap (λ (s : ℕ). pointer_in old s q) (number_on_named old v level lt))
        ∙ sym (ap (λ (m : ℕ). pointer_in old (number_at old (drop m (levels v)) 0) q) e)

-- the inode gets one, of zeros
pub gains_named : (old new : SectorMap) (v : Inode) (level s : ℕ) → level < POINTER_LEVELS → length v.indirect ≡ POINTER_LEVELS → KeepsPointers old new v
    → get_or v.indirect level 0 ≡ 0 → s ≢ 0 → new s ≡ zeros 512 → Gains old new v (with_indirect v level s) (OnLevel (suc level) 0) s
gains_named old new v level s lt len kept none some clear = turns_named old new v level s lt len none kept (λ q small.
    entry_there new s q some ∙ ap (λ (r : List ℕ). u32_of r (4 * q)) clear ∙ u32_of-zeros 512 (4 * q) ∙ sym (ap (λ (t : ℕ). pointer_in old t q) none))

-- a sector of pointers whose number stands in another comes, of zeros
pub gains_on_level : {v : Inode} {level i s : ℕ} {old new : SectorMap} → HasEntry v level i s old new → number_on old v level i ≡ 0 → s ≢ 0 → new s ≡ zeros 512
    → Gains old new v v (OnLevel level i) s
gains_on_level {v} {level} {i} {s} {old} {new} h none some clear = turns_number h (λ lt q small.
    entry_there new s q some ∙ ap (λ (r : List ℕ). u32_of r (4 * q)) clear
    ∙ u32_of-zeros 512 (4 * q) ∙ sym (ap (λ (t : ℕ). pointer_in old t q) none)) none

-- ---- the sectors of the ACLs
other_than_acl : (old new : SectorMap) (v : Inode) (y : ℕ) → KeepsPointers old new v → (a : Part) → a ≢ AccessAcl → part new (record v { acl = y }) a ≡ part old v a
unfolding part
other_than_acl old new v y kept AccessAcl ne = absurd (ne refl)
other_than_acl old new v y kept DefaultAcl ne = refl
other_than_acl old new v y kept (OnLevel level i) ne = number_on_alike old new v (record v { acl = y }) refl kept level i

-- the sector of the access ACL becomes y
pub turns_acl : (old new : SectorMap) (v : Inode) (x y : ℕ) → v.acl ≡ x → KeepsPointers old new v → Turns old new v (record v { acl = y }) AccessAcl x y
unfolding part
turns_acl old new v x y was kept = record { was = was; now = refl; others = λ a ne. other_than_acl old new v y kept a ne }

other_than_default_acl : (old new : SectorMap) (v : Inode) (y : ℕ) → KeepsPointers old new v → (a : Part) → a ≢ DefaultAcl
    → part new (record v { default_acl = y }) a ≡ part old v a
unfolding part
other_than_default_acl old new v y kept AccessAcl ne = refl
other_than_default_acl old new v y kept DefaultAcl ne = absurd (ne refl)
other_than_default_acl old new v y kept (OnLevel level i) ne = number_on_alike old new v (record v { default_acl = y }) refl kept level i

-- the sector of the default ACL becomes y
pub turns_default_acl : (old new : SectorMap) (v : Inode) (x y : ℕ) → v.default_acl ≡ x → KeepsPointers old new v → Turns old new v (record v { default_acl = y }) DefaultAcl x y
unfolding part
turns_default_acl old new v x y was kept = record { was = was; now = refl; others = λ a ne. other_than_default_acl old new v y kept a ne }
