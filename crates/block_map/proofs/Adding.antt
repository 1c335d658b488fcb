-- Sectors of pointers are added: those of a level, one after the other, once those above are there.
use Rattle.std.proofs.Common.{◌≡◌, ◌≢◌, ℕ, zero, suc, ◌+◌, ◌-◌, ◌*◌, ◌≤◌, ◌<◌, ◌⊎◌, List, [], ◌∷◌, ◌++◌, refl, sym, ap, subst, ◌∙◌, arith, inl, inr}
use Rattle.std.specs.Prelude.{nat_eq, if◌then◌else◌}
use Rattle.std.proofs.lemmas.Bool.{cases_lt, cases_eq, lt-ltb, le-ltb}
use Rattle.fs_layout.specs.declared.inode.TheConstants.{DIRECT_BLOCKS, POINTER_LEVELS, SECTOR_POINTERS}
use Rattle.fs_layout.specs.declared.inode.Inode.{Inode}
use Rattle.fs_layout.specs.declared.geometry.Geometry.{Geometry}
use Rattle.fs_layout.specs.Bytes.{SectorMap}
use Rattle.fs_layout.specs.Images.{own_count, holder, level_end, first_block, number_on, Holds, free_sectors}
use Rattle.fs_layout.specs.Lacking.{lacks_from}
use Rattle.sector_txn.specs.Sectors.{TxnState, PutsOnly, lacking}
use Rattle.sector_txn.proofs.TransactionRuns.{changes_nothing, changes_joined, changes_weaker, lacking_less}
use Rattle.bit_alloc.specs.Room.{bitmaps, HasSpare}
use Rattle.block_map.specs.Steps.{MayChange, IsStepSector, HasRoomFor, Alters, lack, lacks_on, lacks_pointers, most_for, numbers_on, sectors_to, pointers_of, pointer_sectors, AddsSector, AddsNumbers, AddsPointers}
use Rattle.block_map.proofs.Alterings.{alters_joined, may_after}
use Rattle.block_map.proofs.AddedPointers.{alters_nothing, adds_among, adds_beside, one_lacks, sectors_far, sectors_near}
use Rattle.block_map.proofs.Counts.{lacks_more, lacks_one, lacks_further, lacks_same, lacks_beyond, lacks_named, lacks_far, most_beyond, most_least, most_far}
use Rattle.block_map.proofs.Rooms.{changes_counted, lacking-append, lacking_few, lacking_more, lacks_among}

-- ---- numbers that are the same
pub numbers_same : (old new : SectorMap) (v w : Inode) (level first count : ℕ) → ((j : ℕ) → first ≤ j → j < first + count → number_on new w level j ≡ number_on old v level j)
    → numbers_on new w level first count ≡ numbers_on old v level first count
numbers_same old new v w level first zero same = refl
numbers_same old new v w level first (suc count) same =
    ap (λ (s : ℕ). s ∷ numbers_on new w level (first + 1) count) (same first (omega arith) (omega arith))
    ∙ ap (λ (r : List ℕ). number_on old v level first ∷ r)
    (numbers_same old new v w level (first + 1) count (λ j low high. same j (omega (arith, low)) (omega (arith, high))))

pub pointers_are_numbers : (image : SectorMap) (v : Inode) (first end : ℕ) → DIRECT_BLOCKS < end
    → pointers_of image v first end ≡ numbers_on image v 1 (holder DIRECT_BLOCKS first) (holder DIRECT_BLOCKS (end - 1) + 1 - holder DIRECT_BLOCKS first)
pointers_are_numbers image v first end far = rw (lt-ltb DIRECT_BLOCKS end far) refl

pub no_pointers_of : (image : SectorMap) (v : Inode) (first end : ℕ) → end ≤ DIRECT_BLOCKS → pointers_of image v first end ≡ []
no_pointers_of image v first end near = rw (le-ltb DIRECT_BLOCKS end near) refl

-- ---- levels
-- a level with more numbers than one is below another
pub has_above : (level end : ℕ) → 1 ≤ level → level ≤ POINTER_LEVELS → 1 < end → end ≤ level_end level → (level < POINTER_LEVELS) × (holder 1 (end - 1) + 1 ≤ level_end (level + 1))
has_above zero end from to far few = absurd (omega (arith, from))
has_above (suc zero) end from to far few = (omega arith, omega (arith, few, far))
has_above (suc (suc zero)) end from to far few = (omega arith, omega (arith, few, far))
has_above (suc (suc (suc zero))) end from to far few = absurd (omega (arith, few, far))
has_above (suc (suc (suc (suc level)))) end from to far few = absurd (omega (arith, to))

-- the later the number, the later its first block
pub first_block_grows : (level i j : ℕ) → i ≤ j → first_block level i ≤ first_block level j
first_block_grows zero i j le = le
first_block_grows (suc level) i j le = first_block_grows level (own_count level + SECTOR_POINTERS * i) (own_count level + SECTOR_POINTERS * j) (omega (arith, le))

-- no later is that of the sector in which the number stands
pub first_block_held : (level i : ℕ) → 1 ≤ level → 1 ≤ i → first_block (level + 1) (holder 1 i) ≤ first_block level i
first_block_held zero i low from = absurd (omega (arith, low))
first_block_held (suc level) i low from =
    let next : suc (suc level) ≡ suc level + 1 = omega arith in
    subst (λ (n : ℕ). first_block n (holder 1 i) ≤ first_block (suc level) i) next
    (first_block_grows (suc level) (1 + SECTOR_POINTERS * holder 1 i) i (omega (arith, from)))

-- ---- the sectors in which a level's numbers from `first` up to `end` stand
abbrev pub above_of : SectorMap → Inode → ℕ → ℕ → ℕ → List ℕ
above_of image v level first end = numbers_on image v (level + 1) (holder 1 first) (holder 1 (end - 1) + 1 - holder 1 first)

module _ (image now : SectorMap) (v w : Inode) (level first end i : ℕ) (level_low : 1 ≤ level) (low : first ≤ i) (high : i < end)
    (same : (j : ℕ) → number_on now w (level + 1) j ≡ number_on image v (level + 1) j) where
  far_sectors : 1 ≤ i → sectors_to now w level i ≡ number_on image v (level + 1) (holder 1 i) ∷ []
  far_sectors from =
      let next : suc level ≡ level + 1 = omega arith in
      sectors_far now w level i level_low from ∙ ap (λ (s : ℕ). s ∷ []) (ap (λ (n : ℕ). number_on now w n (holder 1 i)) next ∙ same (holder 1 i))

  -- the one of each number is among them
  adds_under : {p : Geometry} {old new : TxnState} {u x : Inode} → AddsSector p (sectors_to now w level i) level i old new u x
      → AddsSector p (above_of image v level first end) level i old new u x
  adds_under {p} {old} {new} {u} {x} a = elim (cases_eq i 0) [
    | inl e ↦ adds_beside (subst (λ (ns : List ℕ). AddsSector p ns level i old new u x) (sectors_near now w level i level_low e) a) (above_of image v level first end)
    | inr ne ↦
        adds_among image v (level + 1) (holder 1 first) (holder 1 (end - 1) + 1 - holder 1 first) (holder 1 i) (omega (arith, low)) (omega (arith, low, high))
        (subst (λ (ns : List ℕ). AddsSector p ns level i old new u x) (far_sectors (omega (arith, ne))) a)
  ]

  -- and needs no more room
  lacks_under : (txn : TxnState) (bits : List ℕ) → lacking txn (sectors_to now w level i ++ bits) ≤ lacking txn (above_of image v level first end ++ bits)
  lacks_under txn bits = elim (cases_eq i 0) [
    | inl e ↦
        let is = ap (λ (ns : List ℕ). lacking txn (ns ++ bits)) (sectors_near now w level i level_low e) in
        let a = lacking-append txn (above_of image v level first end) bits in
        omega (arith, is, a)
    | inr ne ↦
        let is = ap (λ (ns : List ℕ). lacking txn (ns ++ bits)) (far_sectors (omega (arith, ne))) in
        let a = lacks_among txn image v (level + 1) (holder 1 first) (holder 1 (end - 1) + 1 - holder 1 first) (holder 1 i) (omega (arith, low)) (omega (arith, low, high)) bits in
        omega (arith, is, a)
  ]

-- ---- the loop
-- a level's numbers from `first` up to i are there; `ns` are the sectors in which they stand
pub record IsAdded (p : Geometry) (ns : List ℕ) (level first i : ℕ) (old new : TxnState) (v w : Inode) : Type 0 where
  pub may : MayChange p new w
  pub alters : Alters p old new v w
  pub size : w.size ≡ v.size
  pub there : (j : ℕ) → first ≤ j → j < i → number_on new.sectors w level j ≢ 0
  pub others : (n j : ℕ) → (n ≢ level) ⊎ ((j < first) ⊎ (i ≤ j)) → number_on new.sectors w n j ≡ number_on old.sectors v n j
  pub puts : PutsOnly (IsStepSector p) (ns ++ bitmaps p) (i - first) old new
  pub room : old.room + lacking new (numbers_on new.sectors w level first (i - first)) + lacking new (ns ++ bitmaps p) ≤ new.room + lacking old (ns ++ bitmaps p) + (i - first)
  pub held : (bytes : List ℕ) → Holds old.sectors v bytes → Holds new.sectors w bytes
  pub free : free_sectors p old.sectors ≤ free_sectors p new.sectors + lacks_on old.sectors v level first (i - first)

-- none of them is
pub none_added : {p : Geometry} {level first : ℕ} {txn : TxnState} {v : Inode} (ns : List ℕ) → MayChange p txn v → IsAdded p ns level first first txn txn v v
none_added {p} {level} {first} {txn} {v} ns may =
    let none : first - first ≡ 0 = omega arith in
    record {
      may = may;
      alters = alters_nothing may;
      size = refl;
      there = λ j low high. absurd (omega (arith, low, high));
      others = λ n j out. refl;
      puts = subst (λ (m : ℕ). PutsOnly (IsStepSector p) (ns ++ bitmaps p) m txn txn) (sym none) (changes_nothing (ns ++ bitmaps p));
      room = let e = ap (λ (n : ℕ). lacking txn (numbers_on txn.sectors v level first n)) none in omega (arith, e);
      held = λ bytes h. h;
      free = omega arith;
    }

-- one more is
more_added : {p : Geometry} {ns : List ℕ} {level first i : ℕ} {old mid new : TxnState} {u v w : Inode} → IsAdded p ns level first i old mid u v
    → AddsSector p ns level i mid new v w → first ≤ i → IsAdded p ns level first (i + 1) old new u w
more_added {p} {ns} {level} {first} {i} {old} {mid} {new} {u} {v} {w} so_far step from =
    let n : ℕ = i - first in
    let one : i + 1 - first ≡ n + 1 = omega (arith, from) in
    let last : first + n ≡ i = omega (arith, from) in
    record {
      may = may_after so_far.may step.alters;
      alters = alters_joined so_far.alters step.alters;
      size = step.size ∙ so_far.size;
      there = λ j low high. elim (cases_eq j i) [
        | inl e ↦ subst (λ (k : ℕ). number_on new.sectors w level k ≢ 0) (sym e) step.there
        | inr ne ↦ λ e. so_far.there j low (omega (arith, high, ne)) (sym (step.others level j (inr ne)) ∙ e)
      ];
      others = λ m j out. step.others m j (apart m j out) ∙ so_far.others m j (wider m j out);
      puts = subst (λ (m : ℕ). PutsOnly (IsStepSector p) (ns ++ bitmaps p) m old new) (sym one) (changes_joined so_far.puts step.puts);
      room =
          let a = so_far.room in
          let b = step.room in
          let same = ap (lacking new) (numbers_same mid.sectors new.sectors v w level first n (λ j low high. step.others level j (inr (omega (arith, high, last))))) in
          let less = lacking_less mid new step.puts.kept (numbers_on mid.sectors v level first n) in
          let count = ap (λ (m : ℕ). lacking new (numbers_on new.sectors w level first m)) one in
          let more = lacking_more new new.sectors w level first n in
          let there = ap (λ (j : ℕ). lacking new (number_on new.sectors w level j ∷ [])) last in
          let split = lacking-append new (number_on new.sectors w level i ∷ []) (ns ++ bitmaps p) in
          omega (arith, a, b, same, less, count, more, there, split, one);
      held = λ bytes h. step.held bytes (so_far.held bytes h);
      free =
          let f = step.free in
          let g = so_far.free in
          let untouched : lack mid.sectors v level i ≡ lack old.sectors u level i =
          ap (λ (s : ℕ). if nat_eq s 0 then 1 else 0) (so_far.others level i (inr (inr (omega arith)))) in
          let more = lacks_more old.sectors u level first n in
          let there = ap (lack old.sectors u level) last in
          let count = ap (lacks_on old.sectors u level first) one in
          omega (arith, f, g, untouched, more, there, count);
    }
  where
    apart : (m j : ℕ) → (m ≢ level) ⊎ ((j < first) ⊎ (i + 1 ≤ j)) → (m ≢ level) ⊎ (j ≢ i)
    apart m j out = elim out [ inl away ↦ inl away | inr w ↦ inr (λ e. elim w [ inl low ↦ omega (arith, low, from, e) | inr high ↦ omega (arith, high, e) ]) ]

    wider : (m j : ℕ) → (m ≢ level) ⊎ ((j < first) ⊎ (i + 1 ≤ j)) → (m ≢ level) ⊎ ((j < first) ⊎ (i ≤ j))
    wider m j out = elim out [ inl away ↦ inl away | inr w ↦ inr (elim w [ inl low ↦ inl low | inr high ↦ inr (omega (arith, high)) ]) ]

-- ---- a level, once those above are there
module _ {p : Geometry} {level first end : ℕ} {old mid : TxnState} {u v : Inode} (low : 1 ≤ level) (lt : first < end) (far : 1 < end) (below : level < POINTER_LEVELS)
    (above : AddsNumbers p (level + 1) (holder 1 first) (holder 1 (end - 1) + 1) old mid u v) where
  abbrev ns : List ℕ
  ns = above_of mid.sectors v level first end

  same_lacks : (n : ℕ) → lacks_on mid.sectors v level first n ≡ lacks_on old.sectors u level first n
  same_lacks n = lacks_same old.sectors mid.sectors u v level (λ i. above.below level i (omega arith)) first n

  -- the numbers above stay
  above_stays : {i : ℕ} {now : TxnState} {w : Inode} → IsAdded p (above_of mid.sectors v level first end) level first i mid now v w → (j : ℕ)
      → number_on now.sectors w (level + 1) j ≡ number_on mid.sectors v (level + 1) j
  above_stays so_far j = so_far.others (level + 1) j (inl (λ e. absurd (let z = e in omega (arith, z))))

  -- the one in which a number stands is there
  pub stands : {i : ℕ} {now : TxnState} {w : Inode} → IsAdded p (above_of mid.sectors v level first end) level first i mid now v w → first ≤ i → i < end → 1 ≤ i
      → number_on now.sectors w (suc level) (holder 1 i) ≢ 0
  stands {i} {now} {w} so_far from to some e =
      let next : suc level ≡ level + 1 = omega arith in
      above.has (holder 1 i) (omega (arith, from)) (omega (arith, to, some)) (sym (above_stays so_far (holder 1 i)) ∙ ap (λ (n : ℕ). number_on now.sectors w n (holder 1 i)) (sym next) ∙ e)

  pub more_numbers : {i : ℕ} {now new : TxnState} {w x : Inode} → IsAdded p (above_of mid.sectors v level first end) level first i mid now v w → first ≤ i → i < end
      → AddsSector p (sectors_to now.sectors w level i) level i now new w x → IsAdded p (above_of mid.sectors v level first end) level first (i + 1) mid new v x
  more_numbers {i} {now} {new} {w} so_far from to step =
      more_added so_far (adds_under mid.sectors now.sectors v w level first end i low from to (above_stays so_far) step) from

  -- there is room for one more
  pub room_for_number : {i : ℕ} {now : TxnState} {w : Inode} → IsAdded p (above_of mid.sectors v level first end) level first i mid now v w → first ≤ i → i < end
      → HasSpare p (most_for level first end) old → HasRoomFor p (sectors_to now.sectors w level i) 1 now
  room_for_number {i} {now} {w} so_far from to spare =
      let a = above.room in
      let b = so_far.room in
      let most = most_beyond level first end low below far in
      let less = lacks_under mid.sectors now.sectors v w level first end i low from to (above_stays so_far) now (bitmaps p) in
      omega (arith, a, b, most, less, spare, from, to)

  -- where no sector is left for one, fewer were free than they lack
  pub number_lacks : {i : ℕ} {now : TxnState} {w : Inode} → IsAdded p (above_of mid.sectors v level first end) level first i mid now v w → first ≤ i → i < end
      → number_on now.sectors w level i ≡ 0 → free_sectors p now.sectors ≡ 0
      → free_sectors p old.sectors < lacks_from old.sectors u (POINTER_LEVELS + 1 - level) level first end
  number_lacks {i} {now} {w} so_far from to none full =
      let untouched : number_on old.sectors u level i ≡ 0 = sym (so_far.others level i (inr (inr (omega arith))) ∙ above.below level i (omega arith)) ∙ none in
      let a = above.free in
      let b = so_far.free in
      let c = same_lacks (i - first) in
      let more = lacks_more old.sectors u level first (i - first) in
      let there : first + (i - first) ≡ i = omega (arith, from) in
      let one : lack old.sectors u level (first + (i - first)) ≡ 1 = ap (lack old.sectors u level) there ∙ one_lacks old.sectors u level i untouched in
      let rest = lacks_further old.sectors u level first (i - first + 1) (end - first) (omega (arith, from, to)) in
      let count = lacks_beyond old.sectors u level first end low below far in
      omega (arith, a, b, c, more, one, rest, full, count)

  -- all of them are there
  pub all_added : {new : TxnState} {w : Inode} → IsAdded p (above_of mid.sectors v level first end) level first end mid new v w → AddsNumbers p level first end old new u w
  all_added {new} {w} done =
      let most = most_beyond level first end low below far in
      let total : old.room + lacking new (numbers_on new.sectors w level first (end - first)) + lacking new ns + lacking new (bitmaps p) ≤ new.room + lacking old (bitmaps p) + most_for level first end =
      (let a = above.room in
      let b = done.room in
      let c = lacking-append new ns (bitmaps p) in
      omega (arith, a, b, c, most)) in
      record {
        alters = alters_joined above.alters done.alters;
        puts = changes_counted above.puts done.puts (omega (arith, total));
        room = let a = lacking-append new (numbers_on new.sectors w level first (end - first)) (bitmaps p) in omega (arith, total, a);
        size = done.size ∙ above.size;
        has = done.there;
        below = λ n i less. done.others n i (inl (λ e. absurd (let z = e in omega (arith, z, less)))) ∙ above.below n i (omega (arith, less));
        others = λ i out. done.others level i (inr out) ∙ above.below level i (omega arith);
        held = λ bytes h. done.held bytes (above.held bytes h);
        free =
            let a = above.free in
            let b = done.free in
            let c = same_lacks (end - first) in
            let count = lacks_beyond old.sectors u level first end low below far in
            omega (arith, a, b, c, count);
      }

-- where no sector is left for those above
pub above_lacks : (p : Geometry) (level first end : ℕ) {from to : ℕ} (old : TxnState) (v : Inode) → 1 ≤ level → level < POINTER_LEVELS → 1 < end → from ≡ holder 1 first → to ≡ holder 1 (end - 1) + 1
    → free_sectors p old.sectors < lacks_from old.sectors v (POINTER_LEVELS + 1 - (level + 1)) (level + 1) from to
    → free_sectors p old.sectors < lacks_from old.sectors v (POINTER_LEVELS + 1 - level) level first end
above_lacks p level first end {from} {to} old v low below far is_from is_to few =
    let count = lacks_beyond old.sectors v level first end low below far in
    let same = ap (λ (i : ℕ). lacks_from old.sectors v (POINTER_LEVELS + 1 - (level + 1)) (level + 1) i to) is_from
    ∙ ap (lacks_from old.sectors v (POINTER_LEVELS + 1 - (level + 1)) (level + 1) (holder 1 first)) is_to in
    omega (arith, count, few, same)

-- there is room for those above
pub spare_above : (p : Geometry) {level : ℕ} (first end : ℕ) {from to : ℕ} (old : TxnState) → 1 ≤ level → level < POINTER_LEVELS → 1 < end → from ≡ holder 1 first → to ≡ holder 1 (end - 1) + 1
    → HasSpare p (most_for level first end) old → HasSpare p (most_for (level + 1) from to) old
spare_above p {level} first end {from} {to} old low below far is_from is_to spare =
    let most = most_beyond level first end low below far in
    let same = ap (λ (i : ℕ). most_for (level + 1) i to) is_from ∙ ap (most_for (level + 1) (holder 1 first)) is_to in
    omega (arith, most, same, spare)

-- the sectors above, as they were added
pub above_at : {p : Geometry} (level first end : ℕ) {from to : ℕ} {old mid : TxnState} {u v : Inode} → from ≡ holder 1 first → to ≡ holder 1 (end - 1) + 1
    → AddsNumbers p (level + 1) from to old mid u v → AddsNumbers p (level + 1) (holder 1 first) (holder 1 (end - 1) + 1) old mid u v
above_at {p} level first end {from} {to} {old} {mid} {u} {v} is_from is_to a =
    subst (λ (i : ℕ). AddsNumbers p (level + 1) i (holder 1 (end - 1) + 1) old mid u v) is_from
    (subst (λ (i : ℕ). AddsNumbers p (level + 1) from i old mid u v) is_to a)

-- ---- the first of a level alone, which stands in the inode
-- it lacks what it lacks itself
pub named_lacks : (image : SectorMap) (v : Inode) (level first end : ℕ) → 1 ≤ level → level ≤ POINTER_LEVELS → first < end → end ≤ 1
    → lacks_from image v (POINTER_LEVELS + 1 - level) level first end ≡ lack image v level 0
named_lacks image v level first end low high lt near =
    let none : first ≡ 0 = omega (arith, lt, near) in
    lacks_named image v level first end low high near ∙ lacks_one image v level first (end - first) (omega (arith, lt, near)) ∙ ap (lack image v level) none

pub named_added : {p : Geometry} {level first end : ℕ} {old new : TxnState} {v w : Inode} → 1 ≤ level → level ≤ POINTER_LEVELS → first < end → end ≤ 1 → AddsSector p [] level 0 old new v w
    → AddsNumbers p level first end old new v w
named_added {p} {level} {first} {end} {old} {new} {v} {w} low high lt near a =
    let none : first ≡ 0 = omega (arith, lt, near) in
    let one : end - first ≡ 1 = omega (arith, lt, near) in
    let most = most_least level first end low high in
    let number : numbers_on new.sectors w level first (end - first) ≡ number_on new.sectors w level 0 ∷ [] =
    ap (numbers_on new.sectors w level first) one ∙ ap (λ (i : ℕ). number_on new.sectors w level i ∷ []) none in
    record {
      alters = a.alters;
      puts = changes_weaker {Q = IsStepSector p} (λ n r. r) (omega (arith, most, one)) a.puts;
      room = let r = a.room in let e = ap (λ (ns : List ℕ). lacking new (ns ++ bitmaps p)) number in omega (arith, r, e, most, one);
      size = a.size;
      has = λ i from to. let e : 0 ≡ i = omega (arith, to, near) in subst (λ (j : ℕ). number_on new.sectors w level j ≢ 0) e a.there;
      below = λ n i less. a.others n i (inl (λ e. absurd (let z = e in omega (arith, z, less))));
      others = λ i out. a.others level i (inr (λ e. elim out [ inl before ↦ omega (arith, before, none) | inr past ↦ omega (arith, past, e, lt) ]));
      held = a.held;
      free =
          let f = a.free in
          let count = named_lacks old.sectors v level first end low high lt near in
          omega (arith, f, count);
    }

-- ---- the blocks' own
pub adds_pointers : {p : Geometry} {first end : ℕ} {old new : TxnState} {v w : Inode} → DIRECT_BLOCKS < end
    → AddsNumbers p 1 (holder DIRECT_BLOCKS first) (holder DIRECT_BLOCKS (end - 1) + 1) old new v w → AddsPointers p first end old new v w
adds_pointers {p} {first} {end} {old} {new} {v} {w} far a =
    let most = sym (most_far first end far) in
    let these = sym (pointers_are_numbers new.sectors w first end far) in
    record {
      alters = a.alters;
      puts = subst (λ (m : ℕ). PutsOnly (IsStepSector p) (bitmaps p) m old new) most a.puts;
      room =
          subst (λ (ns : List ℕ). old.room + lacking new (ns ++ bitmaps p) ≤ new.room + lacking old (bitmaps p) + pointer_sectors first end) these
          (subst (λ (m : ℕ). old.room + lacking new (numbers_on new.sectors w 1 (holder DIRECT_BLOCKS first) (holder DIRECT_BLOCKS (end - 1) + 1 - holder DIRECT_BLOCKS first) ++ bitmaps p)
          ≤ new.room + lacking old (bitmaps p) + m) most a.room);
      size = a.size;
      has = λ k from to ge. a.has (holder DIRECT_BLOCKS k) (omega (arith, from)) (omega (arith, to));
      same = λ k. a.below 0 k (omega arith);
      held = a.held;
      free = subst (λ (m : ℕ). free_sectors p old.sectors ≤ free_sectors p new.sectors + m) (sym (lacks_far old.sectors v first end far)) a.free;
    }

pub first_level_lacks : (p : Geometry) (first end : ℕ) (old : TxnState) (v : Inode) → DIRECT_BLOCKS < end
    → free_sectors p old.sectors < lacks_from old.sectors v POINTER_LEVELS 1 (holder DIRECT_BLOCKS first) (holder DIRECT_BLOCKS (end - 1) + 1)
    → free_sectors p old.sectors < lacks_pointers old.sectors v first end
first_level_lacks p first end old v far few = subst (λ (m : ℕ). free_sectors p old.sectors < m) (sym (lacks_far old.sectors v first end far)) few

-- ---- there is no need
pub needs_no_pointers : {p : Geometry} {first end : ℕ} {txn : TxnState} {v : Inode} → MayChange p txn v → (end ≤ DIRECT_BLOCKS) ⊎ (end ≡ first) → AddsPointers p first end txn txn v v
needs_no_pointers {p} {first} {end} {txn} {v} may way = record {
  alters = alters_nothing may;
  puts = changes_weaker {Q = IsStepSector p} (λ n r. r) (omega arith) (changes_nothing {R = IsStepSector p} (bitmaps p));
  room = room;
  size = refl;
  has = λ k low high ge. absurd (elim way [ inl near ↦ omega (arith, near, high, ge) | inr same ↦ omega (arith, same, low, high) ]);
  same = λ k. refl;
  held = λ bytes h. h;
  free = omega arith;
}
  where
    room : txn.room + lacking txn (pointers_of txn.sectors v first end ++ bitmaps p) ≤ txn.room + lacking txn (bitmaps p) + pointer_sectors first end
    room = elim (cases_lt DIRECT_BLOCKS end) [
      | inl far ↦
          let n : ℕ = holder DIRECT_BLOCKS (end - 1) + 1 - holder DIRECT_BLOCKS first in
          let these = ap (λ (r : List ℕ). lacking txn (r ++ bitmaps p)) (pointers_are_numbers txn.sectors v first end far) in
          let a = lacking-append txn (numbers_on txn.sectors v 1 (holder DIRECT_BLOCKS first) n) (bitmaps p) in
          let few = lacking_few txn txn.sectors v 1 (holder DIRECT_BLOCKS first) n in
          let enough : n ≤ pointer_sectors first end =
          subst (λ (m : ℕ). n ≤ m) (sym (most_far first end far)) (most_least 1 (holder DIRECT_BLOCKS first) (holder DIRECT_BLOCKS (end - 1) + 1) (omega arith) (omega arith)) in
          omega (arith, these, a, few, enough)
      | inr near ↦
          let these = ap (λ (r : List ℕ). lacking txn (r ++ bitmaps p)) (no_pointers_of txn.sectors v first end near) in
          omega (arith, these)
    ]
