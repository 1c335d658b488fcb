-- A run is written: the sectors are taken, then filled, and the sector of pointers is put at the end. That is as if each block had been
-- written by itself: so it is shown by the sectors as they would stand after each of them.
use Rattle.std.proofs.Common.{◌≡◌, ◌≢◌, ℕ, zero, suc, ◌+◌, ◌*◌, ◌-◌, ◌≤◌, ◌<◌, List, [], ◌∷◌, ◌++◌, length, take, drop, get_or, refl, sym, ap, subst, ◌∙◌, arith, inl, inr}
use Rattle.std.specs.Prelude.{nat_eq, nat_lt, if◌then◌else◌, Contains}
use Rattle.std.proofs.lemmas.Bool.{cases_eq, cases_lt, eq-eqb, ne_eqb, le-ltb, lt-ltb}
use Rattle.std.proofs.lemmas.List.{length-take-le, length-drop, take_all}
use Rattle.fs_layout.specs.declared.inode.TheConstants.{DIRECT_BLOCKS, SECTOR_POINTERS}
use Rattle.fs_layout.specs.declared.inode.Inode.{Inode}
use Rattle.fs_layout.specs.declared.geometry.Geometry.{Geometry}
use Rattle.fs_layout.specs.Bytes.{SectorMap, IsBytes, IsSector, splice, le32}
use Rattle.fs_layout.specs.Geometry.{IsGeometry}
use Rattle.fs_layout.specs.Header.{log_end}
use Rattle.fs_layout.specs.Images.{HasWholeTables, IsData, holder, place_in_holder, number_on, pointer, bit, map_bits, Owns, Holds, free_sectors}
use Rattle.fs_layout.specs.InodeChanges.{Puts, MarksSector, Allocates, IsBlockMap, IsOwnedApart, ChangesBlocks}
use Rattle.fs_layout.proofs.Bits.{has_bit, not_both, block_bit_kept, free_sectors_kept}
use Rattle.fs_layout.proofs.Blocks.{map_is_low}
use Rattle.fs_layout.proofs.Fields.{IsBytes-part}
use Rattle.fs_layout.proofs.Parts.{owns_on_level}
use Rattle.fs_layout.proofs.Places.{after_map}
use Rattle.sector_txn.specs.Sectors.{TxnState, SameStore, IsPut, PutsOnly}
use Rattle.sector_txn.proofs.TransactionRuns.{store_same, lacking_less, changes_beside, changes_joined, changes_put_shared, changes_weaker}
use Rattle.bit_alloc.specs.declared.bitmap.Bitmap.TheVariants.{Blocks as BlockMap}
use Rattle.bit_alloc.specs.Bitmaps.{HasRestSet, HasBitmaps, IsNumberOf, IsSectorOf, TakesNumber, TakesNumbers}
use Rattle.bit_alloc.specs.Inodes.{KeepsAcls}
use Rattle.bit_alloc.specs.Room.{bitmaps}
use Rattle.bit_alloc.proofs.Marking.{bitmaps_marked, sector_below}
use Rattle.bit_alloc.proofs.Soundness.{put_keeps_bitmaps}
use Rattle.bit_alloc.proofs.Taking.{taken_is_number}
use Rattle.block_map.specs.Blocks.{IsLoaded}
use Rattle.block_map.specs.declared.blocks.Blocks.{Blocks}
use Rattle.block_map.specs.Steps.{MayChange, IsStepSector, FillsSectors, WritesBlock, WritesRun, block_of, pointers_of, pointers_to}
use Rattle.block_map.proofs.Counts.{lacks_few}
use Rattle.block_map.proofs.Loops.{IsWritten, none_written, more_written}
use Rattle.block_map.proofs.Rooms.{puts_beside}
use Rattle.block_map.proofs.Numbers.{loaded_sector}
use Rattle.block_map.proofs.Rewritten.{filled_whole}
use Rattle.block_map.proofs.Writings.{writes_entry_block}

-- ---- the sectors after some of the blocks
-- below the data those of the bitmaps so far, and in it what was filled so far, with the sector of pointers as it would be
abbrev shown : Geometry → ℕ → SectorMap → List ℕ → SectorMap → SectorMap
shown p u low content high s = if nat_lt s p.first_data then low s else (if nat_eq s u then content else high s)

module _ (p : Geometry) (u : ℕ) (low : SectorMap) (content : List ℕ) (high : SectorMap) where
  shown_low : (s : ℕ) → s < p.first_data → shown p u low content high s ≡ low s
  shown_low s lt = rw (lt-ltb s p.first_data lt) refl

  shown_pointers : p.first_data ≤ u → shown p u low content high u ≡ content
  shown_pointers ge = rw (le-ltb u p.first_data ge) rw (eq-eqb u u refl) refl

  shown_high : (s : ℕ) → p.first_data ≤ s → s ≢ u → shown p u low content high s ≡ high s
  shown_high s ge ne = rw (le-ltb s p.first_data ge) rw (ne_eqb s u ne) refl

  -- another map that has all this is the same
  shown_is : p.first_data ≤ u → (image : SectorMap) → ((s : ℕ) → s < p.first_data → image s ≡ low s) → image u ≡ content
      → ((s : ℕ) → p.first_data ≤ s → s ≢ u → image s ≡ high s) → shown p u low content high ≡ image
  shown_is within image below at above = λ i s. each s i
    where
      each : (s : ℕ) → shown p u low content high s ≡ image s
      each s = elim (cases_lt s p.first_data) [
        | inl lt ↦ shown_low s lt ∙ sym (below s lt)
        | inr ge ↦ elim (cases_eq s u) [
          | inl e ↦ subst (λ (t : ℕ). shown p u low content high t ≡ image t) (sym e) (shown_pointers within ∙ sym at)
          | inr ne ↦ shown_high s ge ne ∙ sym (above s ge ne)
        ]
      ]

-- the bits are those below the data
shown_bits : {p : Geometry} → IsGeometry p → (u : ℕ) (low : SectorMap) (content : List ℕ) (high : SectorMap) (t : ℕ) → t < map_bits p
    → bit (shown p u low content high) p.block_bitmap t ≡ bit low p.block_bitmap t
shown_bits {p} geometry u low content high t lt = block_bit_kept p low (shown p u low content high) t lt (λ s m. shown_low p u low content high s (map_is_low geometry s m))

-- ---- one block more
module _ {p : Geometry} {u n : ℕ} {low next high filled : SectorMap} {x : List ℕ} (content : List ℕ) (geometry : IsGeometry p) (within : p.first_data ≤ u)
    (taken : TakesNumber p BlockMap n low next) (put : Puts n x high filled) (apart : n ≢ u) where
  marks : MarksSector p n (shown p u low content high) (shown p u next content high)
  marks = record {
    sectors = λ s from to. subst IsSector (sym (shown_low p u next content high s to)) (taken.mark.sectors s from to);
    bits = λ t lt ne. shown_bits geometry u next content high t lt ∙ taken.mark.bits t lt ne ∙ sym (shown_bits geometry u low content high t lt);
    others = λ s ban. elim (cases_lt s p.first_data) [
      | inl lt ↦ shown_low p u next content high s lt ∙ taken.mark.others s ban ∙ sym (shown_low p u low content high s lt)
      | inr ge ↦ elim (cases_eq s u) [
        | inl e ↦
            subst (λ (t : ℕ). (shown p u next content high) t ≡ (shown p u low content high) t) (sym e) (shown_pointers p u next content high within ∙ sym (shown_pointers p u low content high within))
        | inr ne ↦ shown_high p u next content high s ge ne ∙ sym (shown_high p u low content high s ge ne)
      ]
    ];
  }

  fills : Puts n x (shown p u next content high) (shown p u next content filled)
  fills = record {
    here = shown_high p u next content filled n taken.free.0 apart ∙ put.here;
    others = λ s ne. elim (cases_lt s p.first_data) [
      | inl lt ↦ shown_low p u next content filled s lt ∙ sym (shown_low p u next content high s lt)
      | inr ge ↦ elim (cases_eq s u) [
        | inl e ↦
            subst (λ (t : ℕ). (shown p u next content filled) t ≡ (shown p u next content high) t) (sym e) (shown_pointers p u next content filled within ∙ sym (shown_pointers p u next content high within))
        | inr off ↦ shown_high p u next content filled s ge off ∙ put.others s ne ∙ sym (shown_high p u next content high s ge off)
      ]
    ];
  }

  allocated : IsSector x → Allocates p n x (shown p u low content high) (shown p u next content high) (shown p u next content filled)
  allocated whole = record {
    free = (taken.free.0, taken.free.1, shown_bits geometry u low content high n (has_bit geometry n taken.free.1) ∙ taken.free.2);
    mark = marks;
    set = shown_bits geometry u next content high n (has_bit geometry n taken.free.1) ∙ taken.set;
    put = fills;
    whole = whole;
  }

  points : (after : List ℕ) → Puts u after (shown p u next content filled) (shown p u next after filled)
  points after = record {
    here = shown_pointers p u next after filled within;
    others = λ s ne. elim (cases_lt s p.first_data) [
      | inl lt ↦ shown_low p u next after filled s lt ∙ sym (shown_low p u next content filled s lt)
      | inr ge ↦ shown_high p u next after filled s ge ne ∙ sym (shown_high p u next content filled s ge ne)
    ];
  }

  one_fewer : free_sectors p (shown p u low content high) ≡ free_sectors p (shown p u next content filled) + 1
  one_fewer =
      let was = free_sectors_kept p low (shown p u low content high) (λ t at. shown_bits geometry u low content high t (has_bit geometry t at.1)) in
      let is = free_sectors_kept p next (shown p u next content filled) (λ t at. shown_bits geometry u next content filled t (has_bit geometry t at.1)) in
      let count = taken.count in
      omega (arith, was, is, count)

  -- nothing else differs
  steps_only : (after : List ℕ) → IsData p u → (s : ℕ) → (IsStepSector p s → ⊥) → (shown p u next after filled) s ≡ (shown p u low content high) s
  steps_only after at_u s out = elim (cases_lt s p.first_data) [
    | inl lt ↦
        shown_low p u next after filled s lt
        ∙ taken.mark.others s (λ m. out (inl (let ge = m.0 in let later = after_map geometry in omega (arith, ge, later), m.1)))
        ∙ sym (shown_low p u low content high s lt)
    | inr ge ↦
        let off : s ≢ u = λ e. out (inr (subst (IsData p) (sym e) at_u)) in
        let away : s ≢ n = λ e. out (inr (subst (IsData p) (sym e) (taken.free.0, taken.free.1))) in
        shown_high p u next after filled s ge off ∙ put.others s away ∙ sym (shown_high p u low content high s ge off)
  ]

-- ---- all of them
module _ {p : Geometry} {old new : TxnState} {v : Inode} {k count u : ℕ} {numbers x : List ℕ} {taken filled : SectorMap} {before after : List ℕ}
    (may : MayChange p old v) (far : DIRECT_BLOCKS ≤ k) (listed : place_in_holder DIRECT_BLOCKS k + count ≤ SECTOR_POINTERS)
    (sector : u ≡ number_on old.sectors v 1 (holder DIRECT_BLOCKS k)) (has : u ≢ 0) (loaded : before ≡ old.sectors u)
    (none : (j : ℕ) → k ≤ j → j < k + count → pointer old.sectors v j ≡ 0)
    (bytes : IsBytes x) (long : length x ≡ 512 * count) (inside : 512 * k + length x ≤ v.size)
    (takes : TakesNumbers p BlockMap numbers 0 count old.sectors taken) (fills : FillsSectors (place_in_holder DIRECT_BLOCKS k) count numbers x taken filled before after)
    (last : Puts u after filled new.sectors) (store : SameStore old new) where
  geometry : IsGeometry p
  geometry = may.bitmaps.geometry

  at_u : IsData p u
  at_u =
      let is = may.apart.each u (subst (λ (t : ℕ). Owns old.sectors v t) (sym sector) (owns_on_level old.sectors v 1 (holder DIRECT_BLOCKS k) (λ e. has (sector ∙ e)))) in
      (is.0, is.1)

  -- the sectors after i blocks
  abbrev so_far : ℕ → SectorMap
  so_far i = shown p u (takes.steps.until i) (fills.pointers.until i) (fills.sectors.until i)

  abbrev beside : SectorMap → ℕ → TxnState
  beside image room = record new { sectors = image; room = room }

  store_beside : (a b : SectorMap) (r q : ℕ) → SameStore (beside a r) (beside b q)
  store_beside a b r q = record { before = λ n. refl; header = refl; reads = (store_same {txn = new}).reads }

  abbrev state : ℕ → TxnState
  state i = beside (so_far i) (new.room + (count - i))

  number_is_data : (i : ℕ) → i < count → IsData p (get_or numbers i 0)
  number_is_data i lt = let free = (takes.steps.each i (omega arith) lt).free in (free.0, free.1)

  -- what was taken differs from what was there in the bitmap alone
  taken_others : (i : ℕ) → i ≤ count → (s : ℕ) → (IsBlockMap p s → ⊥) → takes.steps.until i s ≡ old.sectors s
  taken_others zero le s ban = ap (λ (m : SectorMap). m s) takes.steps.first
  taken_others (suc i) le s ban =
      let next : i + 1 ≡ suc i = omega arith in
      ap (λ (j : ℕ). takes.steps.until j s) (sym next) ∙ (takes.steps.each i (omega arith) (omega (arith, le))).mark.others s ban ∙ taken_others i (omega (arith, le)) s ban

  -- what was filled differs in the data alone
  filled_others : (i : ℕ) → i ≤ count → (s : ℕ) → s < p.first_data → fills.sectors.until i s ≡ taken s
  filled_others zero le s low = ap (λ (m : SectorMap). m s) fills.sectors.first
  filled_others (suc i) le s low =
      let next : i + 1 ≡ suc i = omega arith in
      let within = (number_is_data i (omega (arith, le))).0 in
      ap (λ (j : ℕ). fills.sectors.until j s) (sym next) ∙ (fills.sectors.each i (omega arith) (omega (arith, le))).others s (λ e. omega (arith, e, within, low)) ∙ filled_others i (omega (arith, le)) s low

  none_yet : so_far 0 ≡ old.sectors
  none_yet =
      shown_is p u (takes.steps.until 0) (fills.pointers.until 0) (fills.sectors.until 0) at_u.0 old.sectors
      (λ s lt. sym (ap (λ (m : SectorMap). m s) takes.steps.first))
      (sym (fills.pointers.first ∙ loaded))
      (λ s ge ne.
      sym (ap (λ (m : SectorMap). m s) fills.sectors.first ∙ sym (ap (λ (m : SectorMap). m s) takes.steps.last)
      ∙ taken_others count (omega arith) s (λ m. let low = map_is_low geometry s m in omega (arith, low, ge))))

  all_there : so_far count ≡ new.sectors
  all_there =
      shown_is p u (takes.steps.until count) (fills.pointers.until count) (fills.sectors.until count) at_u.0 new.sectors
      (λ s lt.
      last.others s (λ e. let ge = at_u.0 in omega (arith, e, ge, lt)) ∙ sym (ap (λ (m : SectorMap). m s) fills.sectors.last) ∙ filled_others count (omega arith) s lt
      ∙ sym (ap (λ (m : SectorMap). m s) takes.steps.last))
      (last.here ∙ sym fills.pointers.last)
      (λ s ge ne. last.others s ne ∙ sym (ap (λ (m : SectorMap). m s) fills.sectors.last))

  -- the inode may be changed in them
  may_at_first : MayChange p (state 0) v
  may_at_first =
      let back : old.sectors ≡ so_far 0 = sym none_yet in
      record {
        bitmaps = record {
          geometry = geometry;
          disk = omega (arith, may.bitmaps.disk, store.reads.narrowed.size);
          header = omega (arith, may.bitmaps.header, ap log_end store.header);
          tables = subst (HasWholeTables p) back may.bitmaps.tables;
          rest = subst (HasRestSet p) back may.bitmaps.rest;
        };
        apart = subst (λ (m : SectorMap). IsOwnedApart p m v) back may.apart;
        fits = may.fits;
        used = may.used;
      }

  abbrev pointers_at : List ℕ
  pointers_at = pointers_of (so_far 0) v k (k + count)

  one_step : (i : ℕ) → i < count → IsWritten p pointers_at (512 * k) k (k + i) x (state 0) (state i) v v → IsWritten p pointers_at (512 * k) k (k + (i + 1)) x (state 0) (state (i + 1)) v v
  one_step i lt w =
      let n : ℕ = get_or numbers i 0 in
      let take_one = takes.steps.each i (omega arith) lt in
      let fill_one = fills.sectors.each i (omega arith) lt in
      let now : u ≡ number_on (so_far i) v 1 (holder DIRECT_BLOCKS k) =
      sector ∙ ap (λ (m : SectorMap). number_on m v 1 (holder DIRECT_BLOCKS k)) (sym none_yet) ∙ sym (w.pointers (holder DIRECT_BLOCKS k)) in
      let same_holder : holder DIRECT_BLOCKS k ≡ holder DIRECT_BLOCKS (k + i) = omega (arith, far, listed, lt) in
      let place : place_in_holder DIRECT_BLOCKS k + i ≡ place_in_holder DIRECT_BLOCKS (k + i) = omega (arith, far, listed, lt) in
      let owned : Owns (so_far i) v u = subst (λ (t : ℕ). Owns (so_far i) v t) (sym now) (owns_on_level (so_far i) v 1 (holder DIRECT_BLOCKS k) (λ e. has (now ∙ e))) in
      let apart : n ≢ u = λ e.
      not_both (w.may.apart.each u owned).2
      (shown_bits geometry u (takes.steps.until i) (fills.pointers.until i) (fills.sectors.until i) u (has_bit geometry u at_u.1)
      ∙ ap (bit (takes.steps.until i) p.block_bitmap) (sym e) ∙ take_one.free.2) in
      let wide : length (block_of x i) ≡ 512 = length-take-le 512 (drop (512 * i) x) (let rest = length-drop (512 * i) x in omega (arith, rest, long, lt)) in
      let whole : IsSector (block_of x i) = record { len = wide; bytes = IsBytes-part 512 (512 * i) x bytes } in
      let content : List ℕ = fills.pointers.until i in
      let a = allocated content geometry at_u.0 take_one fill_one apart whole in
      let bits_map : SectorMap = shown p u (takes.steps.until (i + 1)) content (fills.sectors.until i) in
      let mid_map : SectorMap = shown p u (takes.steps.until (i + 1)) content (fills.sectors.until (i + 1)) in
      let bits_state : TxnState = beside bits_map new.room in
      let mid : TxnState = beside mid_map new.room in
      let has_bits : HasBitmaps p bits_state =
      bitmaps_marked p BlockMap n (state i) bits_state w.may.bitmaps (store_beside (so_far i) bits_map (state i).room new.room) (number_is_data i lt) a.mark in
      let has_mid : HasBitmaps p mid = put_keeps_bitmaps has_bits (store_beside bits_map mid_map new.room new.room) (number_is_data i lt).0 a.put in
      let more : PutsOnly (IsStepSector p) (u ∷ bitmaps p) 1 (state i) (state (i + 1)) = record {
        store = store_beside (so_far i) (so_far (i + 1)) (state i).room (state (i + 1)).room;
        others = steps_only content geometry at_u.0 take_one fill_one apart (fills.pointers.until (i + 1)) at_u;
        delta = λ m put. inl put;
        kept = λ m put. put;
        room = let same = lacking_less (state i) (state (i + 1)) (λ m put. put) (u ∷ bitmaps p) in omega (arith, same, lt);
      } in
      let step : WritesBlock p (k + i) 0 (block_of x i) (state i) (state (i + 1)) v v =
      writes_entry_block {old = state i} {mid = mid} {new = state (i + 1)} {bits = bits_map} 0 (block_of x i) w.may
      (w.others (k + i) (inr (omega arith)) ∙ ap (λ (m : SectorMap). pointer m v (k + i)) none_yet ∙ none (k + i) (omega arith) (omega (arith, lt)))
      (omega (arith, wide)) (filled_whole 0 (block_of x i) wide refl) (omega (arith, wide, long, lt, inside)) (omega (arith, wide, long, lt, inside)) a
      (one_fewer content geometry at_u.0 take_one fill_one apart) has_mid (omega (arith, far)) (now ∙ ap (number_on (so_far i) v 1) same_holder) has
      (sym (shown_pointers p u (takes.steps.until i) (fills.pointers.until i) (fills.sectors.until i) at_u.0))
      (fills.pointers.each i (omega arith) lt ∙ ap (λ (q : ℕ). splice (fills.pointers.until i) (4 * q) (le32 n)) place) (points content geometry at_u.0 take_one fill_one apart (fills.pointers.until (i + 1)))
      (store_beside mid_map (so_far (i + 1)) new.room (state (i + 1)).room) more in
      let next : k + i + 1 ≡ k + (i + 1) = omega arith in
      subst (λ (j : ℕ). IsWritten p pointers_at (512 * k) k j x (state 0) (state (i + 1)) v v) next
      (more_written (512 * i) 512 w step (omega arith) (omega (arith, lt)) (omega arith) (omega arith) refl (omega (arith, long, lt)) (inr (omega arith)) inside)

  all_steps : (i : ℕ) → i ≤ count → IsWritten p pointers_at (512 * k) k (k + i) x (state 0) (state i) v v
  all_steps zero le =
      let here : k ≡ k + 0 = omega arith in
      subst (λ (j : ℕ). IsWritten p pointers_at (512 * k) k j x (state 0) (state 0) v v) here (none_written pointers_at may_at_first (omega arith))
  all_steps (suc i) le =
      let next : i + 1 ≡ suc i = omega arith in
      subst (λ (j : ℕ). IsWritten p pointers_at (512 * k) k (k + j) x (state 0) (state j) v v) next (one_step i (omega (arith, le)) (all_steps i (omega (arith, le))))

  -- from the first to the last
  at_ends : (P : SectorMap → SectorMap → Type 0) → P (so_far 0) (so_far count) → P old.sectors new.sectors
  at_ends P it = subst (λ (m : SectorMap). P m new.sectors) none_yet (subst (P (so_far 0)) all_there it)

  pub run_written : PutsOnly (IsStepSector p) (pointers_to old.sectors v k ++ bitmaps p) count old new → WritesRun p k count x old new v v
  run_written puts =
      let w = all_steps count (omega arith) in
      let alters = w.alters in
      record {
        alters = record {
          blocks = at_ends (λ a b. ChangesBlocks p v v a b) alters.blocks;
          fields = alters.fields;
          acls = at_ends (λ a b. KeepsAcls a b v v) alters.acls;
          bitmaps = record {
            geometry = geometry;
            disk = alters.bitmaps.disk;
            header = alters.bitmaps.header;
            tables = subst (HasWholeTables p) all_there alters.bitmaps.tables;
            rest = subst (HasRestSet p) all_there alters.bitmaps.rest;
          };
          fits = alters.fits;
        };
        puts = puts;
        size = refl;
        pointers = λ i. at_ends (λ a b. number_on b v 1 i ≡ number_on a v 1 i) (w.pointers i);
        here = λ j low high. at_ends (λ a b. pointer b v j ≢ 0) (w.here j low high);
        others = λ j out. at_ends (λ a b. pointer b v j ≡ pointer a v j) (w.others j out);
        held = λ bytes.
            let all : take (512 * (k + count) - 512 * k) x ≡ x = take_all (512 * (k + count) - 512 * k) x (omega (arith, long)) in
            at_ends (λ a b. Holds a v bytes → Holds b v (splice bytes (512 * k) x))
            (λ h. subst (λ (r : List ℕ). Holds (so_far count) v (splice bytes (512 * k) r)) all (w.held bytes h));
        free =
            let few = lacks_few (so_far 0) v 0 k (k + count - k) in
            let lost = w.free in
            at_ends (λ a b. free_sectors p a ≤ free_sectors p b + count) (omega (arith, few, lost));
      }

-- ---- the sectors that were put
pub run_puts : {p : Geometry} {old one two new : TxnState} {u count : ℕ} {numbers content : List ℕ} → IsGeometry p → TakesNumbers p BlockMap numbers 0 count old.sectors one.sectors
    → PutsOnly (IsSectorOf p BlockMap (IsNumberOf numbers 0 count)) (bitmaps p) 0 old one → PutsOnly (IsNumberOf numbers 0 count) [] count one two → IsPut u content two new → IsData p u
    → PutsOnly (IsStepSector p) (u ∷ bitmaps p) count old new
run_puts {p} {old} {one} {two} {new} {u} {count} {numbers} geometry takes marks fills put within =
    let taking : PutsOnly (IsStepSector p) (bitmaps p) 0 old one = changes_weaker (λ t w. inl (in_bitmaps t w)) (omega arith) marks in
    let filling : PutsOnly (IsStepSector p) (bitmaps p) count one two =
    changes_weaker {Q = IsStepSector p} (λ t w. inr (taken_is_number takes t w)) (omega arith) (changes_beside fills (bitmaps p)) in
    let both : PutsOnly (IsStepSector p) (bitmaps p) count old two = changes_weaker (λ t r. r) (omega arith) (changes_joined taking filling) in
    let first : Contains (u ∷ bitmaps p) u = (0, omega arith, refl) in
    changes_put_shared {R = IsStepSector p} (puts_beside both u) put (inr within) first
  where
    in_bitmaps : (t : ℕ) → IsSectorOf p BlockMap (IsNumberOf numbers 0 count) t → (p.inode_bitmap ≤ t) × (t < p.table)
    in_bitmaps t w =
        let is = taken_is_number takes w.number w.has in
        let below = sector_below p BlockMap w.number geometry is.1 in
        (omega (arith, below.0, w.is), omega (arith, below.1, w.is))

-- the sector of pointers at hand is in the data
pub loaded_data : {p : Geometry} {txn : TxnState} {b : Blocks} {k : ℕ} → MayChange p txn b.inode → IsLoaded txn.sectors b k → DIRECT_BLOCKS ≤ k
    → number_on txn.sectors b.inode 1 (holder DIRECT_BLOCKS k) ≢ 0 → IsData p b.sector
loaded_data {p} {txn} {b} {k} may loaded far has =
    let each = may.apart.each b.sector
    (subst (λ (t : ℕ). Owns txn.sectors b.inode t) (loaded_sector loaded far) (owns_on_level txn.sectors b.inode 1 (holder DIRECT_BLOCKS k) has)) in
    (each.0, each.1)

-- and it is that of the blocks behind this one, up to its end
pub loaded_further : {image : SectorMap} {b : Blocks} {k : ℕ} (i : ℕ) → IsLoaded image b k → DIRECT_BLOCKS ≤ k → place_in_holder DIRECT_BLOCKS k + i < SECTOR_POINTERS → IsLoaded image b (k + i)
loaded_further {k = k} i loaded far few =
    let same : holder DIRECT_BLOCKS k ≡ holder DIRECT_BLOCKS (k + i) = omega (arith, far, few) in
    record { at_hand = loaded.at_hand; index = λ from. loaded.index far ∙ same }
