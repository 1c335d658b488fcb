-- How often a sector is reached, and the parts of inodes that have it.
use Rattle.std.specs.Prelude.{◌≡◌, ◌≢◌, ℕ, zero, suc, ◌+◌, ◌-◌, ◌*◌, ◌<◌, ◌≤◌, List, get_or}
use Rattle.std.proofs.Common.{refl, sym, ap, arith, subst, ◌∙◌, inl, inr}
use Rattle.std.proofs.lemmas.Bool.{cases_eq, cases_lt, eq-eqb, ne_eqb}
use Rattle.fs_layout.specs.declared.inode.Inode.{Inode}
use Rattle.fs_layout.specs.declared.inode.TheConstants.{POINTER_LEVELS, SECTOR_POINTERS}
use Rattle.fs_layout.specs.declared.geometry.Geometry.{Geometry}
use Rattle.fs_layout.specs.Bytes.{SectorMap, u32_of}
use Rattle.fs_layout.specs.Images.{inode_at, pointer_in, own_count, own_number, level_end, holder, place_in_holder, number_on, part, Owns}
use Rattle.fs_layout.specs.Ownership.{IsOwned}
use Rattle.fs_layout.proofs.Pointers.{number_on_own, number_on_held}
use Rattle.fs_model.specs.Rules.{IsOwnedOnce}
use Rattle.fs_check.specs.Counts.{sum_to, times_reached, times_owned, times_owned_before}
use Rattle.fs_check.proofs.OwnedParts.{first_part, part_at, owned_part, part_count, end_above, counted_part, owned_number, part_at-injective}
use Rattle.fs_check.proofs.Sums.{sum_one, sum_suc, sum_zero, sum_same, sum_none, sum_split, sum_both, sum_rows, sum_has, sum_has_two, sum_some, sum_two}

-- ---- a number by itself

pub reached_here : (m : SectorMap) (q s : ℕ) → q ≡ s → q ≢ 0 → times_reached m 0 q s ≡ 1
unfolding times_reached
reached_here m q s e some = subst (λ t. times_reached m 0 q t ≡ 1) e (rw (eq-eqb q q refl, ne_eqb q 0 some) refl)

pub reached_elsewhere : (m : SectorMap) (q s : ℕ) → q ≢ s → times_reached m 0 q s ≡ 0
unfolding times_reached
reached_elsewhere m q s ne = rw (ne_eqb q s ne) refl

zero_here : (m : SectorMap) → times_reached m 0 0 0 ≡ 0
unfolding times_reached
zero_here m = refl

pub none_reached_here : (m : SectorMap) (s : ℕ) → times_reached m 0 0 s ≡ 0
none_reached_here m s = elim (cases_eq 0 s) [ inl e ↦ subst (λ t. times_reached m 0 0 t ≡ 0) e (zero_here m) | inr ne ↦ reached_elsewhere m 0 s ne ]

pub reached_is : (m : SectorMap) (q s : ℕ) → 1 ≤ times_reached m 0 q s → (q ≡ s) × (q ≢ 0)
reached_is m q s some = elim (cases_eq q s) [
  | inl e ↦ (e, λ none. absurd (let z = ap (λ k. times_reached m 0 k s) none ∙ none_reached_here m s in omega (arith, z, some)))
  | inr ne ↦ absurd (let z = reached_elsewhere m q s ne in omega (arith, z, some))
]

pub reached_most : (m : SectorMap) (q s : ℕ) → times_reached m 0 q s ≤ 1
reached_most m q s = elim (cases_lt 1 (times_reached m 0 q s)) [
  | inl more ↦
      let is = reached_is m q s (omega (arith, more)) in
      let one = reached_here m q s is.0 is.1 in
      omega (arith, one)
  | inr few ↦ few
]

-- ---- a number and what it reaches

pub reached_suc : (m : SectorMap) (level q s : ℕ)
    → times_reached m (suc level) q s ≡ times_reached m 0 q s + sum_to (λ i. times_reached m level (pointer_in m q i) s) SECTOR_POINTERS
unfolding times_reached
reached_suc m level q s = refl

pub reached_itself : (m : SectorMap) (level q : ℕ) → q ≢ 0 → 1 ≤ times_reached m level q q
reached_itself m zero q some = let one = reached_here m q q refl some in omega (arith, one)
reached_itself m (suc level) q some = let step = reached_suc m level q q in let one = reached_here m q q refl some in omega (arith, step, one)

pub reached_next : (m : SectorMap) (level q s : ℕ) → level ≢ 0
    → times_reached m level q s ≡ times_reached m 0 q s + sum_to (λ i. times_reached m (level - 1) (pointer_in m q i) s) SECTOR_POINTERS
reached_next m zero q s some = absurd (some refl)
reached_next m (suc level) q s some =
    let e : level ≡ suc level - 1 = omega arith in
    reached_suc m level q s ∙ ap (λ k. times_reached m 0 q s + sum_to (λ i. times_reached m k (pointer_in m q i) s) SECTOR_POINTERS) e

pub none_reached : (m : SectorMap) (level s : ℕ) → times_reached m level 0 s ≡ 0
none_reached m zero s = none_reached_here m s
none_reached m (suc level) s =
    let step = reached_suc m level 0 s in
    let here = none_reached_here m s in
    let below = sum_none (λ i. times_reached m level (pointer_in m 0 i) s) SECTOR_POINTERS (λ i lt. none_reached m level s) in
    omega (arith, step, here, below)

-- a number that stands in the content of a sector of pointers
pub pointer_read : (m : SectorMap) (q i : ℕ) (content : List ℕ) → q ≢ 0 → content ≡ m q → u32_of content (4 * i) ≡ pointer_in m q i
pointer_read m zero i content some read = absurd (some refl)
pointer_read m (suc q) i content some read = ap (λ (l : List ℕ). u32_of l (4 * i)) read

-- ---- all numbers of a level

module _ (m : SectorMap) (v : Inode) where
  on_level : ℕ → (ℕ → ℕ) → ℕ
  on_level level f = sum_to (λ i. f (number_on m v level i)) (level_end level)

  own_on_level : ℕ → (ℕ → ℕ) → ℕ
  own_on_level level f = sum_to (λ i. f (own_number v level i)) (own_count level)

  below : (ℕ → ℕ) → ℕ → ℕ
  below f q = sum_to (λ k. f (pointer_in m q k)) SECTOR_POINTERS

  held_number : (level j k : ℕ) → k < SECTOR_POINTERS
      → number_on m v level (own_count level + (SECTOR_POINTERS * j + k)) ≡ pointer_in m (number_on m v (suc level) j) k
  held_number level j k lt =
      let i = own_count level + (SECTOR_POINTERS * j + k) in
      let at : holder (own_count level) i ≡ j = omega (arith, lt) in
      let place : place_in_holder (own_count level) i ≡ k = omega (arith, lt) in
      number_on_held m v level i (omega arith) ∙ ap (λ (h : ℕ). pointer_in m (number_on m v (suc level) h) (place_in_holder (own_count level) i)) at
      ∙ ap (pointer_in m (number_on m v (suc level) j)) place

  -- those that stand in the inode, and those in the sectors of pointers of the level above
  climb : (level : ℕ) (f : ℕ → ℕ) → level ≤ POINTER_LEVELS → on_level level f ≡ own_on_level level f + on_level (suc level) (below f)
  unfolding on_level own_on_level below
  climb level f few =
      let end = level_end (suc level) in
      let own = own_count level in
      let all : ℕ → ℕ = λ i. f (number_on m v level i) in
      let whole = ap (sum_to all) (end_above level few) in
      let split = sum_split all own (SECTOR_POINTERS * end) in
      let first = sum_same all (λ i. f (own_number v level i)) own (λ i lt. ap f (number_on_own m v level i few lt)) in
      let rows = sum_rows (λ i. all (own + i)) SECTOR_POINTERS end in
      let rest = sum_same (λ j. sum_to (λ k. all (own + (SECTOR_POINTERS * j + k))) SECTOR_POINTERS)
      (λ j. sum_to (λ k. f (pointer_in m (number_on m v (suc level) j) k)) SECTOR_POINTERS) end
      (λ j lt. sum_same (λ k. all (own + (SECTOR_POINTERS * j + k))) (λ k. f (pointer_in m (number_on m v (suc level) j) k)) SECTOR_POINTERS
      (λ k less. ap f (held_number level j k less))) in
      omega (arith, whole, split, first, rows, rest)

  -- the numbers of a level, each with what it reaches, and those of the level above
  reach_up : (s level : ℕ) → level ≤ POINTER_LEVELS
      → on_level level (λ q. times_reached m level q s) + on_level (suc level) (λ q. times_reached m 0 q s)
      ≡ own_on_level level (λ q. times_reached m level q s) + on_level (suc level) (λ q. times_reached m (suc level) q s)
  unfolding on_level own_on_level below
  reach_up s level few =
      let end = level_end (suc level) in
      let number = number_on m v (suc level) in
      let up = climb level (λ q. times_reached m level q s) few in
      let both = sum_both (λ i. times_reached m 0 (number i) s) (λ i. sum_to (λ k. times_reached m level (pointer_in m (number i) k) s) SECTOR_POINTERS) end in
      let same = sum_same (λ i. times_reached m (suc level) (number i) s)
      (λ i. times_reached m 0 (number i) s + sum_to (λ k. times_reached m level (pointer_in m (number i) k) s) SECTOR_POINTERS) end
      (λ i lt. reached_suc m level (number i) s) in
      omega (arith, up, both, same)

  top_reached : (s : ℕ) → on_level 3 (λ q. times_reached m 3 q s) ≡ own_on_level 3 (λ q. times_reached m 3 q s)
  unfolding on_level own_on_level
  top_reached s = sum_same (λ i. times_reached m 3 (number_on m v 3 i) s) (λ i. times_reached m 3 (own_number v 3 i) s) 1
      (λ i lt. ap (λ q. times_reached m 3 q s) (number_on_own m v 3 i (omega arith) (omega (arith, lt))))

  -- the numbers of all levels
  all_levels : (s : ℕ) → on_level 3 (λ q. times_reached m 0 q s) + on_level 2 (λ q. times_reached m 0 q s) + on_level 1 (λ q. times_reached m 0 q s)
      + on_level 0 (λ q. times_reached m 0 q s)
      ≡ own_on_level 0 (λ q. times_reached m 0 q s) + own_on_level 1 (λ q. times_reached m 1 q s) + own_on_level 2 (λ q. times_reached m 2 q s)
      + own_on_level 3 (λ q. times_reached m 3 q s)
  all_levels s =
      let first = reach_up s 0 (omega arith) in
      let second = reach_up s 1 (omega arith) in
      let third = reach_up s 2 (omega arith) in
      let top = top_reached s in
      omega (arith, first, second, third, top)

  -- those that stand in the inode
  own_levels : (s : ℕ) → own_on_level 1 (λ q. times_reached m 1 q s) + own_on_level 2 (λ q. times_reached m 2 q s) + own_on_level 3 (λ q. times_reached m 3 q s)
      ≡ sum_to (λ k. times_reached m (k + 1) (get_or v.indirect k 0) s) POINTER_LEVELS
  unfolding own_on_level
  own_levels s =
      let f : ℕ → ℕ = λ k. times_reached m (k + 1) (get_or v.indirect k 0) s in
      let none = sum_zero f in
      let first = sum_suc f 0 in
      let second = sum_suc f 1 in
      let third = sum_suc f 2 in
      let a = sum_one (λ i. times_reached m 1 (own_number v 1 i) s) in
      let b = sum_one (λ i. times_reached m 2 (own_number v 2 i) s) in
      let c = sum_one (λ i. times_reached m 3 (own_number v 3 i) s) in
      omega (arith, none, first, second, third, a, b, c)

  -- ---- by parts

  has_part : ℕ → ℕ → ℕ
  has_part s i = times_reached m 0 (owned_part m v i) s

  parts_of_level : (s level : ℕ) → level ≤ POINTER_LEVELS
      → sum_to (λ i. has_part s (first_part level + i)) (level_end level) ≡ on_level level (λ q. times_reached m 0 q s)
  unfolding on_level has_part
  parts_of_level s level few =
      sum_same (λ i. times_reached m 0 (owned_part m v (first_part level + i)) s) (λ i. times_reached m 0 (number_on m v level i) s) (level_end level)
      (λ i lt. ap (λ q. times_reached m 0 q s) (owned_number m v level i few lt))

  acl_parts : (s : ℕ) → sum_to (has_part s) 2 ≡ times_reached m 0 v.acl s + times_reached m 0 v.default_acl s
  unfolding has_part part
  acl_parts s =
      let none = sum_zero (has_part s) in
      let first = sum_suc (has_part s) 0 in
      let second = sum_suc (has_part s) 1 in
      omega (arith, none, first, second)

  -- how often an inode owns a sector is how many parts have it
  pub owned_parts : (s : ℕ) → times_owned m v s ≡ sum_to (λ i. times_reached m 0 (owned_part m v i) s) part_count
  unfolding own_on_level has_part
  owned_parts s =
      let f : ℕ → ℕ = has_part s in
      let blocks = sum_split f (first_part 0) (level_end 0) in
      let first = sum_split f (first_part 1) (level_end 1) in
      let second = sum_split f (first_part 2) (level_end 2) in
      let third = sum_split f (first_part 3) (level_end 3) in
      let zero_level = parts_of_level s 0 (omega arith) in
      let first_level = parts_of_level s 1 (omega arith) in
      let second_level = parts_of_level s 2 (omega arith) in
      let third_level = parts_of_level s 3 (omega arith) in
      let acls = acl_parts s in
      let levels = all_levels s in
      let own = own_levels s in
      omega (arith, blocks, first, second, third, zero_level, first_level, second_level, third_level, acls, levels, own)

  -- a part that has it
  has_it : (s i : ℕ) → 1 ≤ times_reached m 0 (owned_part m v i) s → Owns m v s
  has_it s i some = let is = reached_is m (owned_part m v i) s some in record { at = part_at i; is = is.0; some = λ none. is.1 (is.0 ∙ none) }

  part_has : (s i : ℕ) → owned_part m v i ≡ s → s ≢ 0 → times_reached m 0 (owned_part m v i) s ≡ 1
  part_has s i is some = reached_here m (owned_part m v i) s is (λ none. some (sym is ∙ none))

  pub owned_some : (s : ℕ) → 1 ≤ times_owned m v s → Owns m v s
  owned_some s some =
      let total = owned_parts s in
      let x = sum_some (λ i. times_reached m 0 (owned_part m v i) s) part_count (omega (arith, total, some)) in
      has_it s x.0 x.2

  pub owned_times : (s : ℕ) → Owns m v s → 1 ≤ times_owned m v s
  owned_times s o =
      let x = counted_part m v s o in
      let total = owned_parts s in
      let one = part_has s x.0 x.2 o.some in
      let has = sum_has (λ i. times_reached m 0 (owned_part m v i) s) part_count x.0 x.1 in
      omega (arith, total, one, has)

  -- owned for two things
  owned_twice : (s : ℕ) → 2 ≤ times_owned m v s → (a : Owns m v s) × (b : Owns m v s) × (a.at ≢ b.at)
  unfolding has_it
  owned_twice s more =
      let total = owned_parts s in
      elim (sum_two (λ i. times_reached m 0 (owned_part m v i) s) part_count (omega (arith, total, more))) [
        | inl x ↦ absurd (let most = reached_most m (owned_part m v x.0) s in let many = x.2 in omega (arith, most, many))
        | inr x ↦ (
          has_it s x.0 x.4,
          has_it s x.1 x.5,
          λ e. (let same = part_at-injective x.0 x.1 e in let less = x.2 in omega (arith, same, less)),
        )
      ]

  two_times : (s i j : ℕ) → i < j → j < part_count → owned_part m v i ≡ s → owned_part m v j ≡ s → s ≢ 0 → 2 ≤ times_owned m v s
  two_times s i j low lt a b some =
      let total = owned_parts s in
      let one = part_has s i a some in
      let other = part_has s j b some in
      let has = sum_has_two (λ i. times_reached m 0 (owned_part m v i) s) part_count i j low lt in
      omega (arith, total, one, other, has)

  -- owned at most once
  once_at : (s : ℕ) → times_owned m v s ≤ 1 → (a b : Owns m v s) → a.at ≡ b.at
  once_at s few a b =
      let x = counted_part m v s a in
      let y = counted_part m v s b in
      elim (cases_lt x.0 y.0) [
        | inl low ↦ absurd (let two = two_times s x.0 y.0 low y.1 x.2 y.2 a.some in omega (arith, two, few))
        | inr ge ↦ elim (cases_lt y.0 x.0) [
          | inl low ↦ absurd (let two = two_times s y.0 x.0 low x.1 y.2 x.2 a.some in omega (arith, two, few))
          | inr le ↦ let same : x.0 ≡ y.0 = omega (arith, ge, le) in x.3 ∙ ap part_at same ∙ sym y.3
        ]
      ]

-- ---- of all inodes

module _ (p : Geometry) (m : SectorMap) (s : ℕ) where
  owned_by : ℕ → ℕ
  owned_by k = times_owned m (inode_at p m k) s

  pub is_owned_if : 1 ≤ times_owned_before p m p.inodes s → IsOwned p m s
  unfolding owned_by
  is_owned_if some =
      let x = sum_some owned_by p.inodes some in
      record { by = x.0; below = x.1; is = owned_some m (inode_at p m x.0) s x.2 }

  pub owned_before_if : IsOwned p m s → 1 ≤ times_owned_before p m p.inodes s
  unfolding owned_by
  owned_before_if o =
      let one = owned_times m (inode_at p m o.by) s o.is in
      let has = sum_has owned_by p.inodes o.by o.below in
      omega (arith, one, has)

  pub twice_not_once : 2 ≤ times_owned_before p m p.inodes s → IsOwnedOnce p m s → ⊥
  unfolding owned_by
  twice_not_once more once = elim (sum_two owned_by p.inodes more) [
    | inl x ↦ let both = owned_twice m (inode_at p m x.0) s x.2 in both.2 (once x.0 x.0 x.1 x.1 both.0 both.1).1
    | inr x ↦
        let low = x.2 in
        let lt = x.3 in
        let same = (once x.0 x.1 (omega (arith, low, lt)) x.3 (owned_some m (inode_at p m x.0) s x.4) (owned_some m (inode_at p m x.1) s x.5)).0 in
        omega (arith, low, same)
  ]

  two_owners : (j k : ℕ) → j < k → k < p.inodes → Owns m (inode_at p m j) s → Owns m (inode_at p m k) s → 2 ≤ times_owned_before p m p.inodes s
  unfolding owned_by
  two_owners j k low lt a b =
      let one = owned_times m (inode_at p m j) s a in
      let other = owned_times m (inode_at p m k) s b in
      let has = sum_has_two owned_by p.inodes j k low lt in
      omega (arith, one, other, has)

  once_of : (j : ℕ) → times_owned_before p m p.inodes s ≤ 1 → j < p.inodes → times_owned m (inode_at p m j) s ≤ 1
  unfolding owned_by
  once_of j few lt = let has = sum_has owned_by p.inodes j lt in omega (arith, has, few)

  pub once_if : times_owned_before p m p.inodes s ≤ 1 → IsOwnedOnce p m s
  once_if few j k jl kl a b = elim (cases_lt j k) [
    | inl low ↦ absurd (let two = two_owners j k low kl a b in omega (arith, two, few))
    | inr ge ↦ elim (cases_lt k j) [
      | inl low ↦ absurd (let two = two_owners k j low jl b a in omega (arith, two, few))
      | inr le ↦
          let same : k ≡ j = omega (arith, ge, le) in
          (sym same, once_same same b)
    ]
  ]
    where
      once_same : (same : k ≡ j) → (b : Owns m (inode_at p m k) s) → a.at ≡ b.at
      once_same same = subst (λ n. (b : Owns m (inode_at p m n) s) → a.at ≡ b.at) (sym same) (λ b. once_at m (inode_at p m j) s (once_of j few jl) a b)
