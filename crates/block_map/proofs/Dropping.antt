-- Blocks are dropped, with the sectors of pointers by which no other is found.
use Rattle.std.proofs.Common.{◌≡◌, ◌≢◌, ℕ, zero, suc, ◌+◌, ◌-◌, ◌*◌, ◌<◌, ◌≤◌, List, false, refl, sym, ap, subst, ◌∙◌, arith, inl, inr, ◌⊎◌}
use Rattle.std.specs.Prelude.{min}
use Rattle.std.proofs.lemmas.Bool.{cases_eq, cases_lt}
use Rattle.std.proofs.lemmas.List.{get_or_past}
use Rattle.fs_layout.specs.declared.inode.TheConstants.{DIRECT_BLOCKS, POINTER_LEVELS, SECTOR_POINTERS}
use Rattle.fs_layout.specs.declared.inode.Inode.{Inode}
use Rattle.fs_layout.specs.declared.inode.Kind.TheVariants.{Free}
use Rattle.fs_layout.specs.declared.geometry.Geometry.{Geometry}
use Rattle.fs_layout.specs.Bytes.{SectorMap, IsSector, u32_of}
use Rattle.fs_layout.specs.Inode.{FitsInode}
use Rattle.fs_layout.specs.Header.{log_end}
use Rattle.fs_layout.specs.Geometry.{IsGeometry}
use Rattle.fs_layout.specs.Images.{pointer_in, own_count, holder, place_in_holder, number_on, pointer, first_block, Part, AccessAcl, DefaultAcl, OnLevel, part, Owns, bit, map_bits, free_sectors}
use Rattle.fs_layout.specs.InodeChanges.{IsOwnedApart}
use Rattle.fs_layout.proofs.Bits.{has_bit, block_bit_kept, free_sectors_kept}
use Rattle.fs_layout.proofs.Blocks.{map_is_low}
use Rattle.fs_layout.proofs.Levels.{entry_kept, entry_there}
use Rattle.fs_layout.proofs.Marks.{no_map}
use Rattle.fs_layout.proofs.Parts.{owns_on_level, owns_acl, owns_default_acl}
use Rattle.fs_layout.proofs.Places.{after_map, before_data}
use Rattle.fs_layout.proofs.Pointers.{no_level, number_on_held, number_on_own}
use Rattle.fs_layout.proofs.UsedInodes.{with_blocks_fits}
use Rattle.sector_txn.specs.Sectors.{TxnState, SameStore, PutsOnly}
use Rattle.sector_txn.proofs.TransactionRuns.{changes_beside, changes_joined, changes_nothing, changes_weaker}
use Rattle.bit_alloc.specs.Bitmaps.{HasBitmaps}
use Rattle.bit_alloc.specs.Room.{bitmaps, HasSpare}
use Rattle.bit_alloc.proofs.Soundness.{bitmaps_kept}
use Rattle.block_map.specs.Blocks.{IsWithin}
use Rattle.block_map.specs.Steps.{MayChange, IsStepSector}
use Rattle.block_map.specs.Drops.{GivesParts, IsFor, IsCutFrom, CutsSector, CutsLevel, ClearsNumbers, DropsBlocks, first_on, sector_above, cut_below, cut_by}
use Rattle.block_map.proofs.Alterings.{acls_kept}
use Rattle.block_map.proofs.Givings.{first_serves, keeps_or_gives}
use Rattle.block_map.proofs.Numbers.{numbers_apart}
use Rattle.block_map.proofs.Writings.{acl_apart, default_apart}

-- ---- one level
-- a level's numbers are those before f
pub record HasFirst (old new : SectorMap) (v w : Inode) (level f : ℕ) : Type 0 where
  pub kept : (i : ℕ) → i < f → number_on new w level i ≡ number_on old v level i
  pub gone : (i : ℕ) → f ≤ i → number_on new w level i ≡ 0

-- so it is in the inode and in the first g sectors of the level above
pub record CutsNumbers (old new : SectorMap) (v w : Inode) (level f g : ℕ) : Type 0 where
  pub own_kept : (i : ℕ) → i < own_count level → i < f → number_on new w level i ≡ number_on old v level i
  pub own_gone : (i : ℕ) → i < own_count level → f ≤ i → number_on new w level i ≡ 0
  pub entry_kept : (i q : ℕ) → q < SECTOR_POINTERS → i < g → own_count level + SECTOR_POINTERS * i + q < f
      → pointer_in new (number_on old v (suc level) i) q ≡ pointer_in old (number_on old v (suc level) i) q
  pub entry_gone : (i q : ℕ) → q < SECTOR_POINTERS → i < g → f ≤ own_count level + SECTOR_POINTERS * i + q
      → pointer_in new (number_on old v (suc level) i) q ≡ 0

-- if these are all that are left of it
cut_numbers : {old new : SectorMap} {v w : Inode} {f g : ℕ} (level : ℕ) → CutsNumbers old new v w level f g → ((i : ℕ) → own_count level ≤ i → i < f → holder (own_count level) i < g)
    → HasFirst old new v w (suc level) g → HasFirst old new v w level f
cut_numbers {old} {new} {v} {w} {f} {g} level c reached above = record {
  kept = λ i lt. elim (cases_lt i (own_count level)) [ inl own ↦ c.own_kept i own lt | inr ge ↦ held_kept i ge lt ];
  gone = λ i le. elim (cases_lt i (own_count level)) [ inl own ↦ c.own_gone i own le | inr ge ↦ held_gone i ge le ];
}
  where
    held_kept : (i : ℕ) → own_count level ≤ i → i < f → number_on new w level i ≡ number_on old v level i
    held_kept i ge lt =
        let h : ℕ = holder (own_count level) i in
        let q : ℕ = place_in_holder (own_count level) i in
        number_on_held new w level i ge
        ∙ ap (λ (s : ℕ). pointer_in new s q) (above.kept h (reached i ge lt))
        ∙ c.entry_kept h q (omega arith) (reached i ge lt) (omega (arith, ge, lt))
        ∙ sym (number_on_held old v level i ge)

    held_gone : (i : ℕ) → own_count level ≤ i → f ≤ i → number_on new w level i ≡ 0
    held_gone i ge le =
        let h : ℕ = holder (own_count level) i in
        let q : ℕ = place_in_holder (own_count level) i in
        number_on_held new w level i ge
        ∙ elim (cases_lt h g) [
          | inl lt ↦ ap (λ (s : ℕ). pointer_in new s q) (above.kept h lt) ∙ c.entry_gone h q (omega arith) lt (omega (arith, ge, le))
          | inr past ↦ ap (λ (s : ℕ). pointer_in new s q) (above.gone h past)
        ]

-- ---- a sector of pointers is cut
module _ {u from : ℕ} {old new : TxnState} (c : CutsSector u from old new) where
  cut_others : (t : ℕ) → (u ≢ 0 → from ≢ 0 → t ≢ u) → new.sectors t ≡ old.sectors t
  cut_others t ne = elim (cases_eq from 0) [
    | inl all ↦ c.kept all t
    | inr few ↦ c.puts.others t (λ w. ne w.1 few w.0)
  ]

  cut_whole : (t : ℕ) → IsSector (old.sectors t) → IsSector (new.sectors t)
  cut_whole t whole = elim (cases_eq t u) [
    | inr ne ↦ subst IsSector (sym (cut_others t (λ some few. ne))) whole
    | inl e ↦ elim (cases_eq u 0) [
      | inl empty ↦ subst IsSector (sym (cut_others t (λ some. absurd (some empty)))) whole
      | inr some ↦ elim (cases_eq from 0) [
        | inl all ↦ subst IsSector (sym (c.kept all t)) whole
        | inr few ↦ subst (λ (s : ℕ). IsSector (new.sectors s)) (sym e) (c.cut some few).whole
      ]
    ]
  ]

-- ---- what a level is read by
-- numbers from level n on are the same where the sectors of pointers above level n are
same_step : (old new : SectorMap) (v : Inode) (m : ℕ) → ((i : ℕ) → number_on old v (suc m) i ≢ 0 → new (number_on old v (suc m) i) ≡ old (number_on old v (suc m) i))
    → ((i : ℕ) → number_on new v (suc m) i ≡ number_on old v (suc m) i) → (i : ℕ) → number_on new v m i ≡ number_on old v m i
same_step old new v m same above i = elim (cases_lt POINTER_LEVELS m) [
  | inl past ↦ no_level new v m i past ∙ sym (no_level old v m i past)
  | inr le ↦ elim (cases_lt i (own_count m)) [
    | inl own ↦ number_on_own new v m i le own ∙ sym (number_on_own old v m i le own)
    | inr ge ↦
        let h : ℕ = holder (own_count m) i in
        let q : ℕ = place_in_holder (own_count m) i in
        number_on_held new v m i ge
        ∙ ap (λ (s : ℕ). pointer_in new s q) (above h)
        ∙ entry_kept old new (number_on old v (suc m) h) q (same h)
        ∙ sym (number_on_held old v m i ge)
  ]
]

same_from : (old new : SectorMap) (v : Inode) (n : ℕ) → ((m i : ℕ) → n < m → number_on old v m i ≢ 0 → new (number_on old v m i) ≡ old (number_on old v m i))
    → (m i : ℕ) → n ≤ m → number_on new v m i ≡ number_on old v m i
same_from old new v n same m i le = down (POINTER_LEVELS + 1 - m) m (omega arith) le i
  where
    down : (left m : ℕ) → POINTER_LEVELS + 1 ≤ m + left → n ≤ m → (i : ℕ) → number_on new v m i ≡ number_on old v m i
    down zero m end le i = no_level new v m i (omega (arith, end)) ∙ sym (no_level old v m i (omega (arith, end)))
    down (suc left) m end le i = same_step old new v m (λ j. same (suc m) j (omega (arith, le))) (down left (suc m) (omega (arith, end)) (omega (arith, le))) i

-- ---- level after level is cut
-- the sector of a level's pointers that is cut, and how many numbers are left in it
abbrev pub cut_at : SectorMap → Inode → ℕ → ℕ → ℕ
cut_at image v first level = sector_above image v level (first_on level first)

abbrev pub left_at : ℕ → ℕ → ℕ
left_at first level = place_in_holder (own_count level) (first_on level first)

-- of the first levels, as many, that sector is cut, and no other is written
pub record AreCut (p : Geometry) (count first : ℕ) (image : SectorMap) (old new : TxnState) (v : Inode) : Type 0 where
  pub puts : PutsOnly (IsStepSector p) (bitmaps p) (cut_below count first) old new
  pub cut : (level : ℕ) → level < count → cut_at image v first level ≢ 0 → left_at first level ≢ 0
      → IsCutFrom (left_at first level) (old.sectors (cut_at image v first level)) (new.sectors (cut_at image v first level))
  pub others : (t : ℕ) → ((level : ℕ) → level < count → cut_at image v first level ≢ 0 → left_at first level ≢ 0 → t ≢ cut_at image v first level)
      → new.sectors t ≡ old.sectors t
  pub whole : (t : ℕ) → IsSector (old.sectors t) → IsSector (new.sectors t)

pub none_cut : (p : Geometry) (first : ℕ) (image : SectorMap) (txn : TxnState) (v : Inode) → AreCut p 0 first image txn txn v
none_cut p first image txn v = record {
  puts = changes_nothing {R = IsStepSector p} (bitmaps p);
  cut = λ level lt. absurd (omega (arith, lt));
  others = λ t ne. refl;
  whole = λ t is. is;
}

-- the sectors that are cut are two on two levels, and none is of a level above
cut_apart : {p : Geometry} {image : SectorMap} {v : Inode} → IsOwnedApart p image v → (first level m i : ℕ) → suc level ≢ m → number_on image v m i ≢ 0
    → number_on image v m i ≢ cut_at image v first level
cut_apart apart first level m i ne some = numbers_apart apart m (suc level) i (holder (own_count level) (first_on level first)) (inl (λ e. ne (sym e))) some

module _ {p : Geometry} {count first : ℕ} {v : Inode} (old : TxnState) {given now : TxnState} (apart : IsOwnedApart p old.sectors v)
    (same : (s : ℕ) → Owns old.sectors v s → given.sectors s ≡ old.sectors s) (a : AreCut p count first old.sectors given now v) where
  -- what the next level is read by
  read_same : (m i : ℕ) → count < m → number_on old.sectors v m i ≢ 0 → now.sectors (number_on old.sectors v m i) ≡ old.sectors (number_on old.sectors v m i)
  read_same m i past some =
      a.others (number_on old.sectors v m i) (λ level lt has few. cut_apart apart first level m i (λ e. omega (arith, e, lt, past)) some)
      ∙ same (number_on old.sectors v m i) (owns_on_level old.sectors v m i some)

  pub next_same : (m i : ℕ) → count ≤ m → number_on now.sectors v m i ≡ number_on old.sectors v m i
  next_same m i le = same_from old.sectors now.sectors v count read_same m i le

  -- a sector of pointers that isn't cut is the same
  away : (m i : ℕ) → (m < count → left_at first m ≢ 0 → i ≢ holder (own_count m) (first_on m first)) → number_on old.sectors v (suc m) i ≢ 0
      → now.sectors (number_on old.sectors v (suc m) i) ≡ old.sectors (number_on old.sectors v (suc m) i)
  away m i ne some =
      a.others (number_on old.sectors v (suc m) i) (λ level lt has few.
      numbers_apart apart (suc m) (suc level) i (holder (own_count level) (first_on level first)) (elim (cases_eq m level) [
        | inr other ↦ inl (λ e. other (let z = e in omega (arith, z)))
        | inl e ↦ inr (λ f. ne (omega (arith, e, lt)) (λ z. few (ap (left_at first) (sym e) ∙ z)) (f ∙ ap (λ (n : ℕ). holder (own_count n) (first_on n first)) (sym e)))
      ]) some)
      ∙ same (number_on old.sectors v (suc m) i) (owns_on_level old.sectors v (suc m) i some)

  -- of one that is cut the first numbers stay
  entry_before : (m i q : ℕ) → (m < count → left_at first m ≢ 0 → i ≡ holder (own_count m) (first_on m first) → q < left_at first m)
      → pointer_in now.sectors (number_on old.sectors v (suc m) i) q ≡ pointer_in old.sectors (number_on old.sectors v (suc m) i) q
  entry_before m i q few = elim (cases_lt m count) [
    | inr past ↦ entry_kept old.sectors now.sectors (number_on old.sectors v (suc m) i) q (away m i (λ lt. absurd (omega (arith, lt, past))))
    | inl lt ↦ elim (cases_eq (left_at first m) 0) [
      | inl all ↦ entry_kept old.sectors now.sectors (number_on old.sectors v (suc m) i) q (away m i (λ below left. absurd (left all)))
      | inr left ↦ elim (cases_eq i (holder (own_count m) (first_on m first))) [
        | inr ne ↦ entry_kept old.sectors now.sectors (number_on old.sectors v (suc m) i) q (away m i (λ below some. ne))
        | inl e ↦ cut_entry m i q lt left e (few lt left e)
      ]
    ]
  ]
    where
      cut_entry : (m i q : ℕ) → m < count → left_at first m ≢ 0 → i ≡ holder (own_count m) (first_on m first) → q < left_at first m
          → pointer_in now.sectors (number_on old.sectors v (suc m) i) q ≡ pointer_in old.sectors (number_on old.sectors v (suc m) i) q
      cut_entry m i q lt left e less =
          let u : ℕ = cut_at old.sectors v first m in
          let is : number_on old.sectors v (suc m) i ≡ u = ap (number_on old.sectors v (suc m)) e in
          elim (cases_eq u 0) [
            | inl empty ↦ ap (λ (s : ℕ). pointer_in now.sectors s q) (is ∙ empty) ∙ sym (ap (λ (s : ℕ). pointer_in old.sectors s q) (is ∙ empty))
            | inr some ↦
                let own : Owns old.sectors v u = owns_on_level old.sectors v (suc m) (holder (own_count m) (first_on m first)) some in
                ap (λ (s : ℕ). pointer_in now.sectors s q) is
                ∙ entry_there now.sectors u q some
                ∙ (a.cut m lt some left).before q less
                ∙ ap (λ (r : List ℕ). u32_of r (4 * q)) (same u own)
                ∙ sym (entry_there old.sectors u q some)
                ∙ sym (ap (λ (s : ℕ). pointer_in old.sectors s q) is)
          ]

  -- and the others are 0
  entry_after : (m i q : ℕ) → m < count → left_at first m ≢ 0 → i ≡ holder (own_count m) (first_on m first) → left_at first m ≤ q
      → pointer_in now.sectors (number_on old.sectors v (suc m) i) q ≡ 0
  entry_after m i q lt left e ge =
      let u : ℕ = cut_at old.sectors v first m in
      let is : number_on old.sectors v (suc m) i ≡ u = ap (number_on old.sectors v (suc m)) e in
      ap (λ (s : ℕ). pointer_in now.sectors s q) is
      ∙ elim (cases_eq u 0) [
        | inl empty ↦ ap (λ (s : ℕ). pointer_in now.sectors s q) empty
        | inr some ↦ entry_there now.sectors u q some ∙ (a.cut m lt some left).after q ge
      ]

  -- so each number is the same, or 0
  entry_less : (m i q : ℕ) → (pointer_in now.sectors (number_on old.sectors v (suc m) i) q ≡ pointer_in old.sectors (number_on old.sectors v (suc m) i) q)
      ⊎ (pointer_in now.sectors (number_on old.sectors v (suc m) i) q ≡ 0)
  entry_less m i q = elim (cases_lt q (left_at first m)) [
    | inl low ↦ inl (entry_before m i q (λ lt left e. low))
    | inr high ↦ elim (cases_lt m count) [
      | inr past ↦ inl (entry_before m i q (λ lt. absurd (omega (arith, lt, past))))
      | inl lt ↦ elim (cases_eq (left_at first m) 0) [
        | inl all ↦ inl (entry_before m i q (λ below left. absurd (left all)))
        | inr left ↦ elim (cases_eq i (holder (own_count m) (first_on m first))) [
          | inr ne ↦ inl (entry_before m i q (λ below some e. absurd (ne e)))
          | inl e ↦ inr (entry_after m i q lt left e high)
        ]
      ]
    ]
  ]

  number_less : (left m : ℕ) → POINTER_LEVELS + 1 ≤ m + left → (i : ℕ)
      → (number_on now.sectors v m i ≡ number_on old.sectors v m i) ⊎ (number_on now.sectors v m i ≡ 0)
  number_less zero m end i = inr (no_level now.sectors v m i (omega (arith, end)))
  number_less (suc left) m end i = elim (cases_lt POINTER_LEVELS m) [
    | inl past ↦ inr (no_level now.sectors v m i past)
    | inr le ↦ elim (cases_lt i (own_count m)) [
      | inl own ↦ inl (number_on_own now.sectors v m i le own ∙ sym (number_on_own old.sectors v m i le own))
      | inr ge ↦
          let h : ℕ = holder (own_count m) i in
          let q : ℕ = place_in_holder (own_count m) i in
          elim (number_less left (suc m) (omega (arith, end)) h) [
            | inr gone ↦ inr (number_on_held now.sectors v m i ge ∙ ap (λ (s : ℕ). pointer_in now.sectors s q) gone)
            | inl kept ↦ elim (entry_less m h q) [
              | inl e ↦ inl (number_on_held now.sectors v m i ge ∙ ap (λ (s : ℕ). pointer_in now.sectors s q) kept ∙ e ∙ sym (number_on_held old.sectors v m i ge))
              | inr z ↦ inr (number_on_held now.sectors v m i ge ∙ ap (λ (s : ℕ). pointer_in now.sectors s q) kept ∙ z)
            ]
          ]
    ]
  ]

  -- and each sector that the inode owns now it owned
  owned_part : (s : ℕ) (at : Part) → part now.sectors v at ≡ s → s ≢ 0 → Owns old.sectors v s
  unfolding part
  owned_part s AccessAcl is some = record { at = AccessAcl; is = is; some = some }
  owned_part s DefaultAcl is some = record { at = DefaultAcl; is = is; some = some }
  owned_part s (OnLevel m i) is some = elim (number_less (POINTER_LEVELS + 1) m (omega arith) i) [
    | inl kept ↦ record { at = OnLevel m i; is = sym kept ∙ is; some = some }
    | inr gone ↦ absurd (some (sym is ∙ gone))
  ]

  -- so it can be read
  pub cut_within : IsWithin old.header old.disk.size old.sectors v → SameStore old given → IsWithin now.header now.disk.size now.sectors v
  cut_within within store s o =
      let w = within s (owned_part s o.at o.is o.some) in
      (omega (arith, w.0, ap log_end store.header, ap log_end a.puts.store.header), omega (arith, w.1, store.reads.narrowed.size, a.puts.store.reads.narrowed.size))

  -- one level more is cut
  pub more_cut : {new : TxnState} → CutsLevel count (first_on count first) now new v → AreCut p (count + 1) first old.sectors given new v
  more_cut {new} cuts =
      let u : ℕ = cut_at old.sectors v first count in
      let from : ℕ = left_at first count in
      let is : sector_above now.sectors v count (first_on count first) ≡ u = next_same (suc count) (holder (own_count count) (first_on count first)) (omega arith) in
      let c : CutsSector u from now new = subst (λ (s : ℕ). CutsSector s from now new) is cuts in
      let next : suc count ≡ count + 1 = omega arith in
      let own : u ≢ 0 → Owns old.sectors v u = λ some. owns_on_level old.sectors v (suc count) (holder (own_count count) (first_on count first)) some in
      let step : PutsOnly (IsStepSector p) (bitmaps p) (min from 1) now new =
      changes_weaker {Q = IsStepSector p} (λ n r. let d = apart.each u (own r.1) in let e = r.0 in inr (omega (arith, d.0, e), omega (arith, d.1, e))) (omega arith) (changes_beside c.puts (bitmaps p)) in
      record {
        puts = subst (λ (n : ℕ). PutsOnly (IsStepSector p) (bitmaps p) (cut_below n first) given new) next (changes_joined a.puts step);
        cut = λ level lt has few. elim (cases_eq level count) [
          | inr ne ↦
              let below : level < count = omega (arith, lt, ne) in
              let t : ℕ = cut_at old.sectors v first level in
              let stays : new.sectors t ≡ now.sectors t =
              cut_others c t (λ some left. cut_apart apart first count (suc level) (holder (own_count level) (first_on level first)) (λ e. omega (arith, e, below)) has) in
              subst (λ (x : List ℕ). IsCutFrom (left_at first level) (given.sectors t) x) (sym stays) (a.cut level below has few)
          | inl e ↦
              let before : u ≢ 0 → now.sectors u ≡ given.sectors u =
              λ some. read_same (suc count) (holder (own_count count) (first_on count first)) (omega arith) some ∙ sym (same u (own some)) in
              subst (λ (n : ℕ). IsCutFrom (left_at first n) (given.sectors (cut_at old.sectors v first n)) (new.sectors (cut_at old.sectors v first n))) (sym e)
              (let some : u ≢ 0 = subst (λ (n : ℕ). cut_at old.sectors v first n ≢ 0) e has in
              subst (λ (x : List ℕ). IsCutFrom from x (new.sectors u)) (before some) (c.cut some (subst (λ (n : ℕ). left_at first n ≢ 0) e few)))
        ];
        others = λ t ne. cut_others c t (ne count (omega arith)) ∙ a.others t (λ level lt. ne level (omega (arith, lt)));
        whole = λ t is. cut_whole c t (a.whole t is);
      }

-- what the inode owns is the same once parts are given back
pub given_same : {p : Geometry} {v : Inode} {P : Part → Type 0} {old given : TxnState} → MayChange p old v → GivesParts p v P old given → (s : ℕ) → Owns old.sectors v s
    → given.sectors s ≡ old.sectors s
given_same may g s o = g.others s (no_map g.tables.geometry may.apart s o)

-- ---- the inode
-- the inode with other numbers
abbrev pub with_numbers : Inode → List ℕ → List ℕ → Inode
with_numbers v d a = record v { direct = d; indirect = a }

cleared_fits : {v : Inode} {first : ℕ} {d a : List ℕ} → FitsInode v → v.kind ≢ Free → ClearsNumbers first v (with_numbers v d a) → FitsInode (with_numbers v d a)
cleared_fits {v} {first} {d} fits used c = with_blocks_fits fits used (record {
  direct_len = c.direct_len;
  direct_small = λ i. elim (cases_lt i DIRECT_BLOCKS) [
    | inr past ↦ let e = get_or_past d i 0 (let len = c.direct_len in omega (arith, len, past)) in omega (arith, e)
    | inl own ↦ elim (cases_lt i first) [
      | inl lt ↦ let e = c.kept 0 i own lt in let f = fits.direct i in omega (arith, e, f)
      | inr ge ↦ let e = c.gone 0 i own ge in omega (arith, e)
    ]
  ];
  indirect_len = c.indirect_len;
  indirect_small = λ level. elim (cases_lt (first_block (suc level) 0) first) [
    | inl lt ↦ let e = c.kept (suc level) 0 (omega arith) lt in let f = fits.indirect level in omega (arith, e, f)
    | inr ge ↦ let e = c.gone (suc level) 0 (omega arith) ge in omega (arith, e)
  ];
})

none_more : (k : ℕ) → 0 + k ≤ k
none_more k = omega arith

-- ---- all of it
module _ {p : Geometry} {v : Inode} {first : ℕ} {d a : List ℕ} {old given new : TxnState} (may : MayChange p old v)
    (g : GivesParts p v (IsFor first) old given) (cuts : AreCut p POINTER_LEVELS first old.sectors given new v) (c : ClearsNumbers first v (with_numbers v d a)) where
  abbrev w : Inode
  w = with_numbers v d a

  geometry : IsGeometry p
  geometry = g.tables.geometry

  apart : IsOwnedApart p old.sectors v
  apart = may.apart

  same : (s : ℕ) → Owns old.sectors v s → given.sectors s ≡ old.sectors s
  same = given_same may g

  cut_owned : (level : ℕ) → cut_at old.sectors v first level ≢ 0 → Owns old.sectors v (cut_at old.sectors v first level)
  cut_owned level some = owns_on_level old.sectors v (suc level) (holder (own_count level) (first_on level first)) some

  low : (s : ℕ) → s < p.first_data → new.sectors s ≡ given.sectors s
  low s lt = cuts.others s (λ level below has few e. let ge = (apart.each (cut_at old.sectors v first level) (cut_owned level has)).0 in omega (arith, lt, ge, e))

  bits : (s : ℕ) → s < map_bits p → bit new.sectors p.block_bitmap s ≡ bit given.sectors p.block_bitmap s
  bits s small = block_bit_kept p given.sectors new.sectors s small (λ t m. low t (map_is_low geometry t m))

  -- a level, once the one above is right
  lower : (level : ℕ) → level ≤ POINTER_LEVELS → HasFirst old.sectors new.sectors v w (suc level) (first_on (suc level) first)
      → HasFirst old.sectors new.sectors v w level (first_on level first)
  lower level le = cut_numbers level (record {
    own_kept = λ i own lt. number_on_own new.sectors w level i le own ∙ c.kept level i own (before i lt) ∙ sym (number_on_own old.sectors v level i le own);
    own_gone = λ i own ge. number_on_own new.sectors w level i le own ∙ c.gone level i own ((first_serves level i first).1 ge);
    entry_kept = λ i q small lt far. entry_before old apart same cuts level i q (λ below left e. omega (arith, far, e));
    entry_gone = λ i q small lt ge. elim (cases_lt level POINTER_LEVELS) [
      | inl below ↦
          let here : i ≡ holder (own_count level) (first_on level first) = omega (arith, lt, ge, small) in
          entry_after old apart same cuts level i q below (λ z. absurd (omega (arith, z, lt, ge, small))) here (omega (arith, lt, ge, small))
      | inr top ↦ ap (λ (s : ℕ). pointer_in new.sectors s q) (no_level old.sectors v (suc level) i (omega (arith, top)))
    ];
  }) (λ i ge lt. omega (arith, ge, lt))
    where
      before : (i : ℕ) → i < first_on level first → first_block level i < first
      before i lt = elim (cases_lt (first_block level i) first) [
        | inl less ↦ less
        | inr ge ↦ absurd (let le = (first_serves level i first).0 ge in omega (arith, lt, le))
      ]

  -- above the highest there is none
  none_left : (level : ℕ) → POINTER_LEVELS < level → HasFirst old.sectors new.sectors v w level (first_on level first)
  none_left level past = record {
    kept = λ i lt. no_level new.sectors w level i past ∙ sym (no_level old.sectors v level i past);
    gone = λ i ge. no_level new.sectors w level i past;
  }

  -- so level by level
  each_level : (left level : ℕ) → POINTER_LEVELS < level + left → HasFirst old.sectors new.sectors v w level (first_on level first)
  each_level zero level end = none_left level (omega (arith, end))
  each_level (suc left) level end = elim (cases_lt POINTER_LEVELS level) [
    | inl past ↦ none_left level past
    | inr le ↦ lower level le (each_level left (suc level) (omega (arith, end)))
  ]

  stays : (level i : ℕ) → first_block level i < first → number_on new.sectors w level i ≡ number_on old.sectors v level i
  stays level i lt = (each_level (POINTER_LEVELS + 1) level (omega arith)).kept i (elim (cases_lt i (first_on level first)) [
    | inl less ↦ less
    | inr ge ↦ absurd (let le = (first_serves level i first).1 ge in omega (arith, lt, le))
  ])

  gone : (level i : ℕ) → first ≤ first_block level i → number_on new.sectors w level i ≡ 0
  gone level i le = (each_level (POINTER_LEVELS + 1) level (omega arith)).gone i ((first_serves level i first).0 le)

  parts : (at : Part) → (part new.sectors w at ≡ part old.sectors v at)
      ⊎ ((part new.sectors w at ≡ 0) × (part old.sectors v at ≢ 0 → bit new.sectors p.block_bitmap (part old.sectors v at) ≡ false))
  unfolding part
  parts AccessAcl = inl refl
  parts DefaultAcl = inl refl
  parts (OnLevel level i) = elim (cases_lt (first_block level i) first) [
    | inl lt ↦ inl (stays level i lt)
    | inr le ↦ inr (
      gone level i le,
      λ some.
          let s = number_on old.sectors v level i in
          bits s (has_bit geometry s (apart.each s (owns_on_level old.sectors v level i some)).1) ∙ g.cleared (OnLevel level i) le some,
    )
  ]

  gone_part : (at : Part) → IsFor first at → part new.sectors w at ≡ 0
  unfolding part
  gone_part AccessAcl here = absurd here
  gone_part DefaultAcl here = absurd here
  gone_part (OnLevel level i) here = gone level i here

  tables_now : HasBitmaps p new
  tables_now =
      bitmaps_kept p given new g.tables cuts.puts.store (λ s from to. low s (let d = before_data geometry in omega (arith, to, d)))
      (λ s from to. subst IsSector (sym (low s to)) (g.tables.tables s (let m = after_map geometry in omega (arith, from, m)) to))

  pub drops : DropsBlocks p first old new v (with_numbers v d a)
  drops = record {
    alters = record {
      blocks = keeps_or_gives geometry apart (record {
        tables = tables_now.tables;
        parts = parts;
        released = λ s small set clear. let r = g.released s small set (sym (bits s small) ∙ clear) in (r.0, r.2, gone_part r.0 r.1, r.3);
        set = λ s small set. g.set s small (sym (bits s small) ∙ set);
        whole = λ s o. cuts.whole s (subst IsSector (sym (same s o)) (apart.whole s o));
        others = λ s ban map.
            cuts.others s (λ level lt has few e. ban (subst (λ (t : ℕ). Owns old.sectors v t) (sym e) (cut_owned level has))) ∙ g.others s map;
      });
      fields = record { kind = refl; mode = refl; uid = refl; gid = refl; names = refl; parent = refl; mtime = refl; ctime = refl; atime = refl };
      acls = acls_kept refl refl
          (λ some. cuts.others v.acl (λ level lt has few. acl_apart apart level (holder (own_count level) (first_on level first)) has)
          ∙ same v.acl (owns_acl old.sectors v some))
          (λ some. cuts.others v.default_acl (λ level lt has few. default_apart apart level (holder (own_count level) (first_on level first)) has)
          ∙ same v.default_acl (owns_default_acl old.sectors v some));
      bitmaps = tables_now;
      fits = cleared_fits may.fits may.used c;
    };
    puts = changes_weaker {Q = IsStepSector p} (λ n r. r) (none_more (cut_by first)) (changes_joined g.puts cuts.puts);
    size = refl;
    dropped = gone;
    kept = stays;
    content = λ k lt some.
        cuts.others (pointer old.sectors v k) (λ level below has few.
        numbers_apart apart 0 (suc level) k (holder (own_count level) (first_on level first)) (inl (λ z. absurd (let y = z in omega (arith, y)))) some)
        ∙ same (pointer old.sectors v k) (owns_on_level old.sectors v 0 k some);
    free =
        let f = g.free in
        let e : free_sectors p new.sectors ≡ free_sectors p given.sectors = free_sectors_kept p given.sectors new.sectors (λ s at. bits s (has_bit geometry s at.1)) in
        omega (arith, f, e);
  }

-- ---- room for the cuts
equal : {a b : ℕ} → a ≡ b → a ≤ b
equal e = omega (arith, e)

cut_grows : (few more first : ℕ) → few ≤ more → cut_below few first ≤ cut_below more first
cut_grows few zero first le = equal (ap (λ (n : ℕ). cut_below n first) (let none : few ≡ 0 = omega (arith, le) in none))
cut_grows few (suc more) first le = elim (cases_eq few (suc more)) [
  | inl e ↦ equal (ap (λ (n : ℕ). cut_below n first) e)
  | inr ne ↦ longer (cut_below few first) (cut_below more first) (min (left_at first more) 1) (cut_grows few more first (omega (arith, le, ne)))
]
  where
    longer : (a b c : ℕ) → a ≤ b → a ≤ b + c
    longer a b c few = omega (arith, few)

-- for the next one
pub room_for_cut : {p : Geometry} {level first : ℕ} {image : SectorMap} {old given now : TxnState} {v : Inode} → HasSpare p (cut_by first) old → GivesParts p v (IsFor first) old given
    → AreCut p level first image given now v → level < POINTER_LEVELS → left_at first level ≢ 0 → 0 < now.room
room_for_cut {p} {level} {first} spare g cuts lt left =
    room_left _ _ _ _ _ _ (cut_below level first) (left_at first level) (cut_by first) spare g.puts.room cuts.puts.room
    (cut_grows (suc level) POINTER_LEVELS first (omega (arith, lt))) left
  where
    room_left : (room0 lack0 room1 lack1 room2 lack2 cuts left all : ℕ) → lack0 + all ≤ room0 → room0 + lack1 ≤ room1 + lack0 + 0 → room1 + lack2 ≤ room2 + lack1 + cuts
        → cuts + min left 1 ≤ all → left ≢ 0 → 0 < room2
    room_left room0 lack0 room1 lack1 room2 lack2 cuts left all spare a b more some = omega (arith, spare, a, b, more, some)
