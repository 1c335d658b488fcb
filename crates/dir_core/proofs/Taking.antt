-- How many sectors one more slot takes.
use Rattle.std.proofs.Common.{◌≡◌, ◌≢◌, ℕ, zero, suc, ◌+◌, ◌-◌, ◌*◌, ◌/◌, ◌%◌, ◌<◌, ◌≤◌, Bool, true, false, cond, List, length, refl, sym, ap, subst, ◌∙◌, arith, inl, inr}
use Rattle.std.specs.Prelude.{nat_eq, nat_lt}
use Rattle.std.proofs.lemmas.Bool.{cases_eq, cases_lt, eq-eqb, ne_eqb, lt-ltb, le-ltb}
use Rattle.fs_layout.specs.declared.inode.TheConstants.{DIRECT_BLOCKS, INDIRECT_END, SECTOR_POINTERS, MAX_DIRECTORY_SIZE}
use Rattle.fs_layout.specs.declared.version.Version.{Version}
use Rattle.fs_layout.specs.Version.{slot_size}
use Rattle.fs_layout.specs.declared.inode.Inode.{Inode}
use Rattle.fs_layout.specs.Bytes.{SectorMap}
use Rattle.fs_layout.specs.Images.{own_count, holder, place_in_holder, pointer_in, number_on}
use Rattle.fs_layout.specs.Directories.{NamedInode}
use Rattle.fs_layout.specs.Lacking.{lacks_from}
use Rattle.fs_layout.proofs.ImageSlots.{length-slots}
use Rattle.fs_layout.proofs.Pointers.{number_on_held}
use Rattle.block_map.specs.Steps.{lack, hole, holes, lacks_pointers, blocks_to, taken_by}
use Rattle.block_map.proofs.AddedPointers.{one_lacks}
use Rattle.block_map.proofs.Counts.{lacks_far, lacks_near, lacks_of_one, lacks_one, no_lacks, taken_is as counted}
use Rattle.block_map.proofs.Writings.{hole_is_one}
use Rattle.dir_core.specs.Faults.{pointers_for, taken_for}
use Rattle.dir_core.specs.Slots.{HasSlots}
use Rattle.dir_core.proofs.SlotPlaces.{slot_reaches}

-- a directory of slots has the same bytes for each
pub size_of_slots : {version : Version} {image : SectorMap} {v : Inode} {slots : List NamedInode} → HasSlots version image v slots
    → v.size ≡ slot_size version * length slots
size_of_slots {version} {slots = slots} h = h.holds.size ∙ length-slots version slots h.each

-- ---- how many it says
few_if : (a b c d : Bool) → cond a (1 + cond b 0 (cond c (cond d 2 1) 0)) 0 ≤ 3
few_if false b c d = omega arith
few_if true true c d = omega arith
few_if true false false d = omega arith
few_if true false true false = omega arith
few_if true false true true = omega arith

-- 3 at most
pub taken_for_few : (v : Inode) → taken_for v ≤ 3
taken_for_few v =
    let k : ℕ = v.size / 512 in
    few_if (nat_eq (v.size % 512) 0) (nat_lt k DIRECT_BLOCKS) (nat_eq ((k - DIRECT_BLOCKS) % SECTOR_POINTERS) 0) (nat_eq k INDIRECT_END)

direct_need_none : (k : ℕ) → k < DIRECT_BLOCKS → pointers_for k ≡ 0
direct_need_none k near = rw (lt-ltb k DIRECT_BLOCKS near) refl

next_need_none : (k : ℕ) → DIRECT_BLOCKS ≤ k → (k - DIRECT_BLOCKS) % SECTOR_POINTERS ≢ 0 → pointers_for k ≡ 0
next_need_none k far inside = rw (le-ltb k DIRECT_BLOCKS far, ne_eqb ((k - DIRECT_BLOCKS) % SECTOR_POINTERS) 0 inside) refl

first_needs_one : (k : ℕ) → DIRECT_BLOCKS ≤ k → (k - DIRECT_BLOCKS) % SECTOR_POINTERS ≡ 0 → k ≢ INDIRECT_END → pointers_for k ≡ 1
first_needs_one k far begins other = rw (le-ltb k DIRECT_BLOCKS far, eq-eqb ((k - DIRECT_BLOCKS) % SECTOR_POINTERS) 0 begins, ne_eqb k INDIRECT_END other) refl

double_needs_two : (k : ℕ) → k ≡ INDIRECT_END → pointers_for k ≡ 2
double_needs_two k is = ap pointers_for is

-- ---- how many numbers lack
none_lacks : (image : SectorMap) (v : Inode) (level i : ℕ) → number_on image v level i ≢ 0 → lack image v level i ≡ 0
none_lacks image v level i some = rw (ne_eqb (number_on image v level i) 0 some) refl

-- the double indirect sector, where a sector of pointers with this index needs it
abbrev lacks_double : SectorMap → Inode → ℕ → ℕ
lacks_double image v zero = 0
lacks_double image v (suc last) = lack image v 2 0

double_lacks_none : (image : SectorMap) (v : Inode) (i : ℕ) → (1 ≤ i → number_on image v 2 0 ≢ 0) → lacks_double image v i ≡ 0
double_lacks_none image v zero some = refl
double_lacks_none image v (suc last) some = none_lacks image v 2 0 (some (omega arith))

double_lacks_one : (image : SectorMap) (v : Inode) (i : ℕ) → 1 ≤ i → number_on image v 2 0 ≡ 0 → lacks_double image v i ≡ 1
double_lacks_one image v zero from none = absurd (omega (arith, from))
double_lacks_one image v (suc last) from none = one_lacks image v 2 0 none

-- a sector of pointers of a directory, and that one
listed_lacks : (image : SectorMap) (v : Inode) (i : ℕ) → i ≤ SECTOR_POINTERS → lacks_from image v 3 1 i (i + 1) ≡ lack image v 1 i + lacks_double image v i
listed_lacks image v zero few =
    let all = lacks_near image v 2 1 0 (0 + 1) (omega arith) in
    let one = lacks_one image v 1 0 (0 + 1 - 0) (omega arith) in
    omega (arith, all, one)
listed_lacks image v (suc last) few =
    let all = lacks_of_one image v 2 1 (suc last) (omega arith) in
    let top : holder 1 (suc last) ≡ 0 = omega (arith, few) in
    let named = ap (λ (j : ℕ). lacks_from image v 2 2 j (j + 1)) top in
    let double = lacks_near image v 1 2 0 (0 + 1) (omega arith) in
    let one = lacks_one image v 2 0 (0 + 1 - 0) (omega arith) in
    omega (arith, all, named, double, one)

-- the sectors of pointers to one block
block_lacks : (image : SectorMap) (v : Inode) (k : ℕ) → DIRECT_BLOCKS ≤ k → 512 * k < MAX_DIRECTORY_SIZE
    → lacks_pointers image v k (k + 1) ≡ lack image v 1 (holder DIRECT_BLOCKS k) + lacks_double image v (holder DIRECT_BLOCKS k)
block_lacks image v k far few =
    let i : ℕ = holder DIRECT_BLOCKS k in
    let last : k + 1 - 1 ≡ k = omega arith in
    lacks_far image v k (k + 1) (omega (arith, far))
    ∙ ap (λ (j : ℕ). lacks_from image v 3 1 i (holder DIRECT_BLOCKS j + 1)) last
    ∙ listed_lacks image v i (omega (arith, few))

-- and that block itself
one_block_lacks : (image : SectorMap) (v : Inode) (k end : ℕ) → end ≡ k + 1
    → holes image v k (end - k) + lacks_pointers image v k end ≡ hole image v k + lacks_pointers image v k (k + 1)
one_block_lacks image v k end is =
    let one : holes image v k (end - k) ≡ hole image v k = lacks_one image v 0 k (end - k) (omega (arith, is)) in
    let more : lacks_pointers image v k end ≡ lacks_pointers image v k (k + 1) = ap (lacks_pointers image v k) is in
    omega (arith, one, more)

-- a number is in a sector of pointers that is there
holder_there : (image : SectorMap) (v : Inode) (level i : ℕ) → own_count level ≤ i → number_on image v level i ≢ 0
    → number_on image v (suc level) (holder (own_count level) i) ≢ 0
holder_there image v level i from some none =
    some (number_on_held image v level i from ∙ ap (λ (s : ℕ). pointer_in image s (place_in_holder (own_count level) i)) none)

-- ---- in a directory
module _ {version : Version} {image : SectorMap} {v : Inode} {slots : List NamedInode} (h : HasSlots version image v slots)
    (few : v.size + slot_size version ≤ MAX_DIRECTORY_SIZE) where
  -- the block of one more slot
  abbrev next : ℕ
  next = v.size / 512

  -- the sectors of pointers to a block within the size
  pointers_there : (j : ℕ) → DIRECT_BLOCKS ≤ j → 512 * j < v.size → number_on image v 1 (holder DIRECT_BLOCKS j) ≢ 0
  pointers_there j far lt = holder_there image v 0 j far (h.whole j lt)

  double_there : (j : ℕ) → INDIRECT_END ≤ j → 512 * j < v.size → number_on image v 2 0 ≢ 0
  double_there j far lt none =
      let top : holder (own_count 1) (holder DIRECT_BLOCKS j) ≡ 0 = omega (arith, lt, few) in
      holder_there image v 1 (holder DIRECT_BLOCKS j) (omega (arith, far)) (pointers_there j (omega (arith, far)) lt)
      (ap (number_on image v 2) top ∙ none)

  -- none lacks where a block within the size has the same ones
  same_pointers : (j : ℕ) → DIRECT_BLOCKS ≤ j → 512 * j < v.size → holder DIRECT_BLOCKS j ≡ holder DIRECT_BLOCKS next → DIRECT_BLOCKS ≤ next
      → lacks_pointers image v next (next + 1) ≡ 0
  same_pointers j from lt same far =
      let i : ℕ = holder DIRECT_BLOCKS next in
      let one : lack image v 1 i ≡ 0 = none_lacks image v 1 i (subst (λ (n : ℕ). number_on image v 1 n ≢ 0) same (pointers_there j from lt)) in
      let above : lacks_double image v i ≡ 0 = double_lacks_none image v i (λ some. double_there j (omega (arith, some, same, from)) lt) in
      let all = block_lacks image v next far (omega (arith, few)) in
      omega (arith, all, one, above)

  -- where the last block is full, those of which the next one is the first to need
  first_pointers : v.size % 512 ≡ 0 → DIRECT_BLOCKS ≤ next → (next - DIRECT_BLOCKS) % SECTOR_POINTERS ≡ 0
      → lacks_pointers image v next (next + 1) ≡ pointers_for next
  first_pointers whole far begins =
      let i : ℕ = holder DIRECT_BLOCKS next in
      let one : lack image v 1 i ≡ 1 = one_lacks image v 1 i (h.holds.trim 1 i (omega (arith, whole, far, begins))) in
      let all = block_lacks image v next far (omega (arith, few)) in
      elim (cases_eq next INDIRECT_END) [
        | inl twice ↦
            let above : lacks_double image v i ≡ 1 = double_lacks_one image v i (omega (arith, twice)) (h.holds.trim 2 0 (omega (arith, whole, twice))) in
            let is = double_needs_two next twice in
            omega (arith, all, one, above, is)
        | inr once ↦
            let above : lacks_double image v i ≡ 0 =
            double_lacks_none image v i (λ some. double_there INDIRECT_END (omega arith) (omega (arith, some, once, whole, begins))) in
            let is = first_needs_one next far begins once in
            omega (arith, all, one, above, is)
      ]

  new_pointers : v.size % 512 ≡ 0 → lacks_pointers image v next (next + 1) ≡ pointers_for next
  new_pointers whole = elim (cases_lt next DIRECT_BLOCKS) [
    | inl near ↦ no_lacks image v next (next + 1) (omega (arith, near)) ∙ sym (direct_need_none next near)
    | inr far ↦ elim (cases_eq ((next - DIRECT_BLOCKS) % SECTOR_POINTERS) 0) [
      | inl begins ↦ first_pointers whole far begins
      | inr inside ↦
          same_pointers (next - 1) (omega (arith, far, inside)) (omega (arith, far)) (omega (arith, far, inside)) far ∙ sym (next_need_none next far inside)
    ]
  ]

  -- where it isn't, none
  no_pointers : v.size % 512 ≢ 0 → lacks_pointers image v next (next + 1) ≡ 0
  no_pointers within = elim (cases_lt next DIRECT_BLOCKS) [
    | inl near ↦ no_lacks image v next (next + 1) (omega (arith, near))
    | inr far ↦ same_pointers next far (omega (arith, within)) refl far
  ]

  pub taken_is : taken_by image v v.size (slot_size version) ≡ taken_for v
  taken_is =
      let end : blocks_to (v.size + slot_size version) ≡ next + 1 = slot_reaches version (length slots) v.size (size_of_slots h) in
      let all : taken_by image v v.size (slot_size version) ≡ hole image v next + lacks_pointers image v next (next + 1) =
      counted image v v.size (slot_size version) ∙ one_block_lacks image v next (blocks_to (v.size + slot_size version)) end in
      elim (cases_eq (v.size % 512) 0) [
        | inr within ↦
            let full : hole image v next ≡ 0 = none_lacks image v 0 next (h.whole next (omega (arith, within))) in
            let is : taken_for v ≡ 0 = rw (ne_eqb (v.size % 512) 0 within) refl in
            omega (arith, all, full, no_pointers within, is)
        | inl whole ↦
            let none : hole image v next ≡ 1 = hole_is_one image v next (h.holds.trim 0 next (omega (arith, whole))) in
            let is : taken_for v ≡ 1 + pointers_for next = rw (eq-eqb (v.size % 512) 0 whole) refl in
            omega (arith, all, none, new_pointers whole, is)
      ]
