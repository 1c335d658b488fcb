-- Sectors of blocks and of pointers are given back, one after the other.
use Rattle.std.proofs.Common.{◌≡◌, ◌≢◌, ℕ, zero, suc, ◌+◌, ◌-◌, ◌*◌, ◌/◌, ◌%◌, [], ◌≤◌, ◌<◌, false, refl, sym, ap, subst, ◌∙◌, arith, inl, inr, ◌⊎◌, IsTrue}
use Rattle.std.specs.Prelude.{List, get_or, length, set, min, max}
use Rattle.std.proofs.lemmas.Bool.{cases_eq, cases_lt}
use Rattle.std.proofs.lemmas.List.{get_or-set_same, get_or-set_other}
use Rattle.fs_layout.specs.declared.inode.TheConstants.{DIRECT_BLOCKS, POINTER_LEVELS, SECTOR_POINTERS}
use Rattle.fs_layout.specs.declared.inode.Inode.{Inode}
use Rattle.fs_layout.specs.declared.geometry.Geometry.{Geometry}
use Rattle.fs_layout.specs.Bytes.{SectorMap, IsSector, zeros}
use Rattle.fs_layout.specs.Inode.{FitsInode}
use Rattle.fs_layout.specs.Geometry.{IsGeometry}
use Rattle.fs_layout.specs.Images.{HasWholeTables, IsData, pointer_in, own_count, holder, place_in_holder, number_on, first_block, Part, AccessAcl, DefaultAcl, OnLevel, part, Owns, Holds, byte_in, byte_at, bit, map_bits, free_sectors}
use Rattle.fs_layout.specs.InodeChanges.{Keeps, IsOwnedApart, IsBlockMap, ChangesBlocks}
use Rattle.fs_layout.proofs.Bits.{set_or_clear, not_both, has_bit}
use Rattle.fs_layout.proofs.Parts.{owned_before, owns_part, part_kept}
use Rattle.fs_layout.proofs.Pointers.{no_level, no_pointers, number_on_held, pointer_direct, pointer_without}
use Rattle.fs_layout.proofs.Free.{free_fits}
use Rattle.fs_layout.proofs.SplicedBytes.{get_or-zeros}
use Rattle.fs_layout.proofs.UsedInodes.{blocks_fit, with_blocks_fits}
use Rattle.block_map.proofs.Alterings.{acls_where_kept}
use Rattle.block_map.proofs.Sizing.{sized_fits, is_used}
use Rattle.fs_layout.proofs.Blocks.{low_not_owned, map_is_low}
use Rattle.fs_layout.proofs.Marks.{no_map}
use Rattle.sector_txn.specs.Sectors.{TxnState, IsUnchanged, PutsOnly}
use Rattle.bit_alloc.proofs.Marking.{sector_below}
use Rattle.bit_alloc.proofs.Transactions.{bitmaps_unchanged, puts_after}
use Rattle.block_map.proofs.Runs.{same_map}
use Rattle.sector_txn.proofs.TransactionRuns.{changes_nothing, changes_joined, changes_read, changes_weaker}
use Rattle.bit_alloc.specs.declared.bitmap.Bitmap.TheVariants.{Blocks as BlockMap}
use Rattle.bit_alloc.specs.Bitmaps.{HasBitmaps, GivesNumbers, IsNumberOf, IsSectorOf}
use Rattle.bit_alloc.specs.Room.{bitmaps}
use Rattle.block_map.specs.Steps.{MayChange, IsStepSector, Alters}
use Rattle.block_map.specs.Contents.{AllowsSize}
use Rattle.block_map.specs.Drops.{GivesParts, OwnsOnlyData, IsFor, IsAmong, IsFrom, first_on, emptied}

-- ---- a list of numbers
-- one more is listed
pub one_listed : (numbers : List ℕ) (i n : ℕ) (number : ℕ → ℕ) → i < length numbers → n ≡ number i → ((j : ℕ) → j < i → get_or numbers j 0 ≡ number j) → (j : ℕ) → j < i + 1
    → get_or (set numbers i n) j 0 ≡ number j
one_listed numbers i n number low is each j lt = elim (cases_eq j i) [
  | inl e ↦ ap (λ (k : ℕ). get_or (set numbers i n) k 0) e ∙ get_or-set_same numbers i n 0 low ∙ is ∙ ap number (sym e)
  | inr ne ↦ get_or-set_other numbers i j n 0 ne ∙ each j (omega (arith, lt, ne))
]

-- ---- several parts
pub none_given : {p : Geometry} {v : Inode} {P : Part → Type 0} {txn : TxnState} → HasBitmaps p txn → ((at : Part) → P at → ⊥) → GivesParts p v P txn txn
none_given {p} h none = record {
  tables = h;
  others = λ s ban. refl;
  cleared = λ at here some. absurd (none at here);
  released = λ s few set clear. absurd (not_both set clear);
  set = λ s few set. set;
  puts = changes_nothing (bitmaps p);
  free = omega arith;
}

-- a part without a sector has nothing to give back
pub given_weaker : {p : Geometry} {v : Inode} {P Q : Part → Type 0} {old new : TxnState} → GivesParts p v P old new → ((at : Part) → P at → Q at)
    → ((at : Part) → Q at → P at ⊎ (part old.sectors v at ≡ 0)) → GivesParts p v Q old new
given_weaker {p} {v} {P} {Q} {old} {new} g wider none = record {
  tables = g.tables;
  others = g.others;
  cleared = λ at here some. elim (none at here) [ inl was ↦ g.cleared at was some | inr hole ↦ absurd (some hole) ];
  released = λ s few set clear. let w = g.released s few set clear in (w.0, wider w.0 w.1, w.2, w.3);
  set = g.set;
  puts = g.puts;
  free = g.free;
}

-- the sectors that the inode owns are the same meanwhile
pub given_keeps : {p : Geometry} {v : Inode} {P : Part → Type 0} {old new : TxnState} → OwnsOnlyData p old.sectors v → GivesParts p v P old new → Keeps old.sectors new.sectors v
given_keeps inside g s o = g.others s (λ m. let low = map_is_low g.tables.geometry s m in let d = (inside s o).0 in omega (arith, low, d))

-- the sectors of some, and then those of others
pub given_joined : {p : Geometry} {v : Inode} {P Q : Part → Type 0} {old mid new : TxnState} → OwnsOnlyData p old.sectors v → GivesParts p v P old mid → GivesParts p v Q mid new
    → GivesParts p v (λ at. P at ⊎ Q at) old new
given_joined {p} {v} {P} {Q} {old} {mid} {new} inside a b =
    let same : (at : Part) → part mid.sectors v at ≡ part old.sectors v at = λ at. part_kept (given_keeps inside a) at in
    let few : (at : Part) → part old.sectors v at ≢ 0 → part old.sectors v at < map_bits p =
    λ at some. has_bit a.tables.geometry (part old.sectors v at) (inside (part old.sectors v at) (owns_part old.sectors v at some)).1 in
    record {
      tables = b.tables;
      others = λ s ban. b.others s ban ∙ a.others s ban;
      cleared = λ at here some. elim here [
        | inl was ↦ elim (set_or_clear (bit new.sectors p.block_bitmap (part old.sectors v at))) [
          | inl set ↦ absurd (not_both (b.set (part old.sectors v at) (few at some) set) (a.cleared at was some))
          | inr clear ↦ clear
        ]
        | inr then ↦
            ap (bit new.sectors p.block_bitmap) (sym (same at)) ∙ b.cleared at then (λ e. some (sym (same at) ∙ e))
      ];
      released = λ s small set clear. elim (set_or_clear (bit mid.sectors p.block_bitmap s)) [
        | inl still ↦ let w = b.released s small still clear in (w.0, inr w.1, sym (same w.0) ∙ w.2, w.3)
        | inr gone ↦ let w = a.released s small set gone in (w.0, inl w.1, w.2, w.3)
      ];
      set = λ s small set. a.set s small (b.set s small set);
      puts = changes_joined a.puts b.puts;
      free = let x = a.free in let y = b.free in omega (arith, x, y);
    }

-- ---- several numbers of a level
-- the numbers of a list that has each of them or 0 are those of data sectors
pub listed_inside : (p : Geometry) (v : Inode) (level first : ℕ) {count : ℕ} {numbers : List ℕ} {image : SectorMap} → OwnsOnlyData p image v
    → ((i : ℕ) → i < count → get_or numbers i 0 ≡ number_on image v level (first + i)) → (n : ℕ) → IsNumberOf numbers 0 count n → IsData p n
unfolding part
listed_inside p v level first {image = image} inside each n w =
    let is : number_on image v level (first + w.place) ≡ n = sym (each w.place w.before) ∙ w.is in
    inside n (record { at = OnLevel level (first + w.place); is = is; some = w.some })

-- those of a list, which has each number or 0
pub numbers_given : {p : Geometry} {v : Inode} {level first end count : ℕ} {numbers : List ℕ} {old new : TxnState} → OwnsOnlyData p old.sectors v → first + count ≡ end
    → ((i : ℕ) → i < count → get_or numbers i 0 ≡ number_on old.sectors v level (first + i)) → HasBitmaps p new → GivesNumbers p BlockMap (IsNumberOf numbers 0 count) old.sectors new.sectors
    → PutsOnly (IsSectorOf p BlockMap (IsNumberOf numbers 0 count)) (bitmaps p) 0 old new → GivesParts p v (IsAmong level first end) old new
unfolding part
numbers_given {p} {v} {level} {first} {end} {count} {numbers} {old} {new} inside all each tables given puts = record {
  tables = tables;
  others = given.others;
  cleared = λ at here some.
      let i : ℕ = here.0 in
      let low = here.2 in
      let high = here.3 in
      let place : i - first < count = omega (arith, low, high, all) in
      let back : first + (i - first) ≡ i = omega (arith, low) in
      ap (λ (other : Part). bit new.sectors p.block_bitmap (part old.sectors v other)) here.1
      ∙ given.clear (number_on old.sectors v level i) (record {
        place = i - first;
        from = omega arith;
        before = place;
        is = each (i - first) place ∙ ap (number_on old.sectors v level) back;
        some = λ e. some (ap (part old.sectors v) here.1 ∙ e);
      });
  released = λ s few set clear. elim (given.bits s few) [
    | inl w ↦ (OnLevel level (first + w.place), (first + w.place, refl, omega arith, omega (arith, w.before, all)), sym (each w.place w.before) ∙ w.is, w.some)
    | inr same ↦ absurd (not_both set (sym same ∙ clear))
  ];
  set = λ s few set. elim (given.bits s few) [ inl w ↦ absurd (not_both set (given.clear s w)) | inr same ↦ sym same ∙ set ];
  puts = changes_weaker {Q = IsStepSector p} (λ t w. inl (in_bitmaps t w)) (omega arith) puts;
  free = given.count;
}
  where
    in_bitmaps : (t : ℕ) → IsSectorOf p BlockMap (IsNumberOf numbers 0 count) t → (p.inode_bitmap ≤ t) × (t < p.table)
    in_bitmaps t w =
        let at = listed_inside p v level first inside each w.number w.has in
        let below = sector_below p BlockMap w.number tables.geometry at.1 in
        (omega (arith, below.0, w.is), omega (arith, below.1, w.is))

-- numbers past the last that the inode can have are holes
pub rest_given : {p : Geometry} {v : Inode} {level first k : ℕ} {old new : TxnState} → GivesParts p v (IsAmong level first k) old new → (end : ℕ) → k ≤ end
    → ((j : ℕ) → k ≤ j → number_on old.sectors v level j ≡ 0) → GivesParts p v (IsAmong level first end) old new
unfolding part
rest_given {p} {v} {level} {first} {k} {old} {new} g end le none =
    given_weaker g (λ at w. (w.0, w.1, w.2, (let a = w.3 in omega (arith, a, le))))
    (λ at w. elim (cases_lt w.0 k) [
      | inl lt ↦ inl (w.0, w.1, w.2, lt)
      | inr ge ↦ inr (ap (part old.sectors v) w.1 ∙ none w.0 ge)
    ])

-- of holes alone there is nothing to give back
pub holes_given : {p : Geometry} {v : Inode} {level first end : ℕ} {txn : TxnState} → HasBitmaps p txn
    → ((i : ℕ) → first ≤ i → i < end → number_on txn.sectors v level i ≡ 0) → GivesParts p v (IsAmong level first end) txn txn
unfolding part
holes_given {p} {v} {level} {first} {end} {txn} h none =
    given_weaker {P = λ at. ⊥} (none_given h (λ at x. x)) (λ at x. absurd x) (λ at w. inr (ap (part txn.sectors v) w.1 ∙ none w.0 w.2 w.3))

-- ---- what is owned
-- Each part of v stays or is given back, with its bit: then w has what v had and kept.
pub record KeepsOrGives (p : Geometry) (v w : Inode) (old new : SectorMap) : Type 0 where
  pub tables : HasWholeTables p new
  pub parts : (at : Part) → (part new w at ≡ part old v at) ⊎ ((part new w at ≡ 0) × (part old v at ≢ 0 → bit new p.block_bitmap (part old v at) ≡ false))
  pub released : (s : ℕ) → s < map_bits p → IsTrue (bit old p.block_bitmap s) → bit new p.block_bitmap s ≡ false → (at : Part) × (part old v at ≡ s) × (part new w at ≡ 0) × (s ≢ 0)
  pub set : (s : ℕ) → s < map_bits p → IsTrue (bit new p.block_bitmap s) → IsTrue (bit old p.block_bitmap s)
  pub whole : (s : ℕ) → Owns old v s → IsSector (new s)
  pub others : (s : ℕ) → (Owns old v s → ⊥) → (IsBlockMap p s → ⊥) → new s ≡ old s

owned_still : {p : Geometry} {v w : Inode} {old new : SectorMap} {s : ℕ} → KeepsOrGives p v w old new → (o : Owns new w s) → part old v o.at ≡ s
owned_still g o = elim (g.parts o.at) [ inl same ↦ sym same ∙ o.is | inr gone ↦ absurd (o.some (sym o.is ∙ gone.0)) ]

pub keeps_or_gives : {p : Geometry} {v w : Inode} {old new : SectorMap} → IsGeometry p → IsOwnedApart p old v → KeepsOrGives p v w old new → ChangesBlocks p v w old new
keeps_or_gives {p} {v} {w} {old} {new} geometry apart g = record {
  owned = record {
    sectors = g.tables;
    whole = λ s o. g.whole s (record { at = o.at; is = owned_still g o; some = o.some });
    others = λ s ge lt used ban. g.others s ban (λ m. let low = map_is_low geometry s m in omega (arith, low, ge));
    fresh = λ s o. inl (record { at = o.at; is = owned_still g o; some = o.some });
    once = λ s a b. apart.once s (record { at = a.at; is = owned_still g a; some = a.some }) (record { at = b.at; is = owned_still g b; some = b.some });
    taken = λ s few o.
        let was : Owns old v s = record { at = o.at; is = owned_still g o; some = o.some } in
        elim (set_or_clear (bit new p.block_bitmap s)) [
          | inl set ↦ set
          | inr clear ↦
              let r = g.released s few (apart.each s was).2 clear in
              let same : r.0 ≡ o.at = apart.once s (record { at = r.0; is = r.1; some = o.some }) was in
              absurd (o.some (sym o.is ∙ ap (part new w) (sym same) ∙ r.2))
        ];
    released = λ s few set clear. let r = g.released s few set clear in record { at = r.0; is = r.1; some = r.3 };
    gained = λ s few set clear. absurd (not_both (g.set s few set) clear);
    stayed = λ s few set o. elim (g.parts o.at) [
      | inl same ↦ record { at = o.at; is = same ∙ o.is; some = o.some }
      | inr gone ↦ absurd (not_both set (ap (bit new p.block_bitmap) (sym o.is) ∙ gone.1 (λ e. o.some (sym o.is ∙ e))))
    ];
  };
  low = λ s lt ban. g.others s (low_not_owned apart s lt) ban;
}

-- the sectors of some numbers, and then of the next
pub among_joined : {p : Geometry} {v : Inode} {level first k end : ℕ} {old mid new : TxnState} → OwnsOnlyData p old.sectors v → GivesParts p v (IsAmong level first k) old mid
    → GivesParts p v (IsAmong level k end) mid new → first ≤ k → k ≤ end → GivesParts p v (IsAmong level first end) old new
among_joined {level = level} {first} {k} {end} inside a b from to = given_weaker (given_joined inside a b)
    (λ at way. elim way [
      | inl w ↦ (w.0, w.1, w.2, (let lt = w.3 in omega (arith, lt, to)))
      | inr w ↦ (w.0, w.1, (let ge = w.2 in omega (arith, ge, from)), w.3)
    ])
    (λ at w. elim (cases_lt w.0 k) [
      | inl lt ↦ inl (inl (w.0, w.1, w.2, lt))
      | inr ge ↦ inl (inr (w.0, w.1, ge, w.3))
    ])

-- ---- the numbers of a level that one sector of pointers has after the other
-- those that stand in the inode come first
pub own_given : {p : Geometry} {v : Inode} {level first count : ℕ} {old new : TxnState} → GivesParts p v (IsAmong level (min first count) count) old new
    → GivesParts p v (IsAmong level first (max first (count + SECTOR_POINTERS * ((first - count) / SECTOR_POINTERS)))) old new
own_given {first = first} {count} g = given_weaker g
    (λ at w. (w.0, w.1, (let ge = w.2 in let lt = w.3 in omega (arith, ge, lt)), (let lt = w.3 in omega (arith, lt))))
    (λ at w. inl (w.0, w.1, (let ge = w.2 in omega (arith, ge)), (let ge = w.2 in let lt = w.3 in omega (arith, ge, lt))))

-- then those of the next sector
pub next_given : {p : Geometry} {v : Inode} {level first : ℕ} {old mid new : TxnState} (count j : ℕ) → OwnsOnlyData p old.sectors v
    → GivesParts p v (IsAmong level first (max first (count + SECTOR_POINTERS * j))) old mid → (first - count) / SECTOR_POINTERS ≤ j
    → GivesParts p v (IsAmong level (max first (count + SECTOR_POINTERS * j)) (count + SECTOR_POINTERS * j + SECTOR_POINTERS)) mid new
    → GivesParts p v (IsAmong level first (max first (count + SECTOR_POINTERS * (j + 1)))) old new
next_given {p} {v} {level} {first} {old} {new = new} count j inside a low b =
    let end : count + SECTOR_POINTERS * j + SECTOR_POINTERS ≡ max first (count + SECTOR_POINTERS * (j + 1)) = omega (arith, low) in
    subst (λ (m : ℕ). GivesParts p v (IsAmong level first m) old new) end (among_joined inside a b (omega arith) (omega (arith, low)))

-- of which there is none where the sector isn't there
pub none_listed : (image : SectorMap) (v : Inode) (level count j : ℕ) → own_count level ≡ count → number_on image v (suc level) j ≡ 0 → (i : ℕ) → count + SECTOR_POINTERS * j ≤ i
    → i < count + SECTOR_POINTERS * j + SECTOR_POINTERS → number_on image v level i ≡ 0
none_listed image v level count j own none i ge lt =
    let at : holder (own_count level) i ≡ j = omega (arith, own, ge, lt) in
    number_on_held image v level i (omega (arith, own, ge))
    ∙ ap (λ (s : ℕ). pointer_in image s (place_in_holder (own_count level) i)) (ap (number_on image v (suc level)) at ∙ none)

-- and behind the last there is none
pub level_given : {p : Geometry} {v : Inode} {level first k : ℕ} {old new : TxnState} → GivesParts p v (IsAmong level first k) old new
    → ((i : ℕ) → k ≤ i → number_on old.sectors v level i ≡ 0) → GivesParts p v (IsFrom level first) old new
unfolding part
level_given {v = v} {level} {first} {k} {old} g past = given_weaker g (λ at w. (w.0, w.1, w.2)) (λ at w. elim (cases_lt w.0 k) [
  | inl lt ↦ inl (w.0, w.1, w.2, lt)
  | inr ge ↦ inr (ap (part old.sectors v) w.1 ∙ past w.0 ge)
])

-- ---- all of it
-- the numbers on each level from the first on that serve only blocks from `first` on are all those
pub first_serves : (level i first : ℕ) → (first ≤ first_block level i → first_on level first ≤ i) × (first_on level first ≤ i → first ≤ first_block level i)
first_serves zero i first = (λ le. le, λ le. le)
first_serves (suc level) i first =
    let below = first_serves level (own_count level + SECTOR_POINTERS * i) first in
    (λ le. let f = below.0 le in omega (arith, f), λ le. below.1 (let z = le in omega (arith, z)))

-- one of the first levels, as many
abbrev pub IsForBelow : ℕ → ℕ → Part → Type 0
IsForBelow count first AccessAcl = ⊥
IsForBelow count first DefaultAcl = ⊥
IsForBelow count first (OnLevel level i) = (level < count) × (first ≤ first_block level i)

none_below : (first : ℕ) (at : Part) → IsForBelow 0 first at → ⊥
none_below first AccessAcl here = here
none_below first DefaultAcl here = here
none_below first (OnLevel level i) here = let lt = here.0 in omega (arith, lt)

pub none_given_below : {p : Geometry} {v : Inode} {first : ℕ} {txn : TxnState} → HasBitmaps p txn → GivesParts p v (IsForBelow 0 first) txn txn
none_given_below {first = first} h = none_given h (none_below first)

below_more : (level first : ℕ) (at : Part) → (IsForBelow level first at) ⊎ (IsFrom level (first_on level first) at) → IsForBelow (level + 1) first at
below_more level first AccessAcl way = elim way [ inl here ↦ absurd here | inr w ↦ let e = w.1 in absurd cc ]
below_more level first DefaultAcl way = elim way [ inl here ↦ absurd here | inr w ↦ let e = w.1 in absurd cc ]
below_more level first (OnLevel n i) way = elim way [
  | inl here ↦ ((let lt = here.0 in omega (arith, lt)), here.1)
  | inr w ↦ subst (IsForBelow (level + 1) first) (sym w.1) (omega arith, (first_serves level w.0 first).1 w.2)
]

more_below : (level first : ℕ) (at : Part) → IsForBelow (level + 1) first at → (IsForBelow level first at) ⊎ (IsFrom level (first_on level first) at)
more_below level first AccessAcl here = absurd here
more_below level first DefaultAcl here = absurd here
more_below level first (OnLevel n i) here = elim (cases_eq n level) [
  | inl e ↦ inr (i, ap (λ (m : ℕ). OnLevel m i) e, (first_serves level i first).0 (subst (λ (m : ℕ). first ≤ first_block m i) e here.1))
  | inr ne ↦ inl ((let lt = here.0 in omega (arith, lt, ne)), here.1)
]

-- one level more
pub more_given : {p : Geometry} {v : Inode} {level first : ℕ} {old mid new : TxnState} → OwnsOnlyData p old.sectors v → GivesParts p v (IsForBelow level first) old mid
    → GivesParts p v (IsFrom level (first_on level first)) mid new → GivesParts p v (IsForBelow (level + 1) first) old new
more_given {level = level} {first} inside a b = given_weaker (given_joined inside a b) (below_more level first) (λ at here. inl (more_below level first at here))

all_below : (first : ℕ) (at : Part) → IsForBelow (POINTER_LEVELS + 1) first at → IsFor first at
all_below first AccessAcl here = here
all_below first DefaultAcl here = here
all_below first (OnLevel level i) here = here.1

below_all : (image : SectorMap) (v : Inode) (first : ℕ) (at : Part) → IsFor first at → (IsForBelow (POINTER_LEVELS + 1) first at) ⊎ (part image v at ≡ 0)
unfolding part
below_all image v first AccessAcl here = absurd here
below_all image v first DefaultAcl here = absurd here
below_all image v first (OnLevel level i) here = elim (cases_lt level (POINTER_LEVELS + 1)) [
  | inl lt ↦ inl (lt, here)
  | inr ge ↦ inr (no_level image v level i (omega (arith, ge)))
]

-- and there are no more
pub all_given : {p : Geometry} {v : Inode} {first : ℕ} {old new : TxnState} → GivesParts p v (IsForBelow (POINTER_LEVELS + 1) first) old new → GivesParts p v (IsFor first) old new
all_given {v = v} {first} {old} g = given_weaker g (all_below first) (below_all old.sectors v first)

-- the inode without it has no block, nor a sector of pointers
pub emptied_number : (image : SectorMap) (v : Inode) (level i : ℕ) → number_on image (emptied v) level i ≡ 0
unfolding zeros
emptied_number image v zero k = elim (cases_lt k DIRECT_BLOCKS) [
  | inl lt ↦ pointer_direct image (emptied v) k lt ∙ get_or-zeros DIRECT_BLOCKS k
  | inr ge ↦ pointer_without image (emptied v) k ge (get_or-zeros POINTER_LEVELS)
]
emptied_number image v (suc level) i = no_pointers image (emptied v) (get_or-zeros POINTER_LEVELS) level i

-- and holds nothing
pub emptied_holds : (image : SectorMap) (v : Inode) → Holds image (emptied v) []
unfolding byte_at
emptied_holds image v = record {
  size = refl;
  byte = λ i. ap (λ (s : ℕ). byte_in image s (i % 512)) (emptied_number image v 0 (i / 512));
  trim = λ level i le. emptied_number image v level i;
}

emptied_parts : {p : Geometry} {v : Inode} {old new : TxnState} → GivesParts p v (IsFor 0) old new → (at : Part)
    → (part new.sectors (emptied v) at ≡ part old.sectors v at)
    ⊎ ((part new.sectors (emptied v) at ≡ 0) × (part old.sectors v at ≢ 0 → bit new.sectors p.block_bitmap (part old.sectors v at) ≡ false))
unfolding part
emptied_parts g AccessAcl = inl refl
emptied_parts g DefaultAcl = inl refl
emptied_parts {v = v} {new = new} g (OnLevel level i) = inr (emptied_number new.sectors v level i, g.cleared (OnLevel level i) (omega arith))

gone_part : (image : SectorMap) (v : Inode) (at : Part) → IsFor 0 at → part image (emptied v) at ≡ 0
unfolding part
gone_part image v AccessAcl here = absurd here
gone_part image v DefaultAcl here = absurd here
gone_part image v (OnLevel level i) here = emptied_number image v level i

-- an emptied inode fits its fields
emptied_fits : (v : Inode) → FitsInode v → AllowsSize v.kind 0 → FitsInode (emptied v)
unfolding zeros
emptied_fits v fits allowed =
    with_blocks_fits (sized_fits v 0 fits allowed (omega arith)) (is_used v.kind 0 allowed) (blocks_fit free_fits)

-- what it owned besides its ACLs is given back
pub emptied_blocks : {p : Geometry} {v : Inode} {old new : TxnState} → IsGeometry p → IsOwnedApart p old.sectors v → GivesParts p v (IsFor 0) old new
    → ChangesBlocks p v (emptied v) old.sectors new.sectors
emptied_blocks {p} {v} {old} {new} geometry apart g = keeps_or_gives geometry apart (record {
  tables = g.tables.tables;
  parts = emptied_parts g;
  released = λ s few set clear.
      let r = g.released s few set clear in
      (r.0, r.2, gone_part new.sectors v r.0 r.1, r.3);
  set = g.set;
  whole = λ s o. subst IsSector (sym (g.others s (no_map geometry apart s o))) (apart.whole s o);
  others = λ s ban map. g.others s map;
})

-- the inode is emptied
pub empties : {p : Geometry} {v : Inode} {old new : TxnState} → MayChange p old v → AllowsSize v.kind 0 → GivesParts p v (IsFor 0) old new → Alters p old new v (emptied v)
empties {p} {v} {old} {new} may allowed g =
    let geometry : IsGeometry p = g.tables.geometry in
    let same : (s : ℕ) → Owns old.sectors v s → new.sectors s ≡ old.sectors s = λ s o. g.others s (no_map geometry may.apart s o) in
    record {
      blocks = emptied_blocks geometry may.apart g;
      fields = record { kind = refl; mode = refl; uid = refl; gid = refl; names = refl; parent = refl; mtime = refl; ctime = refl; atime = refl };
      acls = acls_where_kept refl refl same;
      bitmaps = g.tables;
      fits = emptied_fits v may.fits allowed;
    }

-- ---- after reads
-- an inode that may be changed may be so after reads
pub may_unchanged : {p : Geometry} {old mid : TxnState} {v : Inode} → MayChange p old v → IsUnchanged old mid → MayChange p mid v
may_unchanged {p} {old} {mid} {v} may same = record {
  bitmaps = bitmaps_unchanged p old mid may.bitmaps same;
  apart = subst (λ (image : SectorMap). IsOwnedApart p image v) (sym (same_map old.sectors mid.sectors same.sectors)) may.apart;
  fits = may.fits;
  used = may.used;
}

-- parts are given back, after reads
pub given_after : {p : Geometry} {v : Inode} {P : Part → Type 0} {old mid new : TxnState} → IsUnchanged old mid → GivesParts p v P mid new → GivesParts p v P old new
given_after {p} {v} {P} {old} {mid} {new} same g =
    let e : mid.sectors ≡ old.sectors = same_map old.sectors mid.sectors same.sectors in
    record {
      tables = g.tables;
      others = λ s ban. g.others s ban ∙ same.sectors s;
      cleared = subst (λ (image : SectorMap). (at : Part) → P at → part image v at ≢ 0 → bit new.sectors p.block_bitmap (part image v at) ≡ false) e g.cleared;
      released = subst (λ (image : SectorMap). (s : ℕ) → s < map_bits p → IsTrue (bit image p.block_bitmap s) → bit new.sectors p.block_bitmap s ≡ false
          → (at : Part) × P at × (part image v at ≡ s) × (s ≢ 0)) e g.released;
      set = subst (λ (image : SectorMap). (s : ℕ) → s < map_bits p → IsTrue (bit new.sectors p.block_bitmap s) → IsTrue (bit image p.block_bitmap s)) e g.set;
      puts = puts_after same g.puts;
      free = let f = g.free in let b = ap (free_sectors p) e in omega (arith, f, b);
    }

-- and given on
pub given_unchanged : {p : Geometry} {v : Inode} {P : Part → Type 0} {old mid new : TxnState} → GivesParts p v P old mid → IsUnchanged mid new → GivesParts p v P old new
given_unchanged {p} {v} {P} {old} {mid} {new} g same =
    let e : mid.sectors ≡ new.sectors = sym (same_map mid.sectors new.sectors same.sectors) in
    record {
      tables = bitmaps_unchanged p mid new g.tables same;
      others = λ s ban. same.sectors s ∙ g.others s ban;
      cleared = subst (λ (image : SectorMap). (at : Part) → P at → part old.sectors v at ≢ 0 → bit image p.block_bitmap (part old.sectors v at) ≡ false) e g.cleared;
      released = subst (λ (image : SectorMap). (s : ℕ) → s < map_bits p → IsTrue (bit old.sectors p.block_bitmap s) → bit image p.block_bitmap s ≡ false
          → (at : Part) × P at × (part old.sectors v at ≡ s) × (s ≢ 0)) e g.released;
      set = subst (λ (image : SectorMap). (s : ℕ) → s < map_bits p → IsTrue (bit image p.block_bitmap s) → IsTrue (bit old.sectors p.block_bitmap s)) e g.set;
      puts = changes_read g.puts same;
      free = let f = g.free in let b = ap (free_sectors p) e in omega (arith, f, b);
    }

-- what may be changed owns data sectors
pub in_data : {p : Geometry} {txn : TxnState} {v : Inode} → MayChange p txn v → OwnsOnlyData p txn.sectors v
in_data may s o = let d = may.apart.each s o in (d.0, d.1)

-- so it is where they are the same
pub in_data_kept : (p : Geometry) {old new : SectorMap} {v : Inode} → OwnsOnlyData p old v → Keeps old new v → OwnsOnlyData p new v
in_data_kept p inside keeps s o = inside s (owned_before keeps o)
