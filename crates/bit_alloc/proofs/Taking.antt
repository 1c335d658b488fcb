-- Numbers are taken, one after the other.
use Rattle.std.proofs.Common.{◌≡◌, ◌≢◌, ℕ, zero, suc, ◌+◌, ◌*◌, ◌-◌, ◌/◌, ◌%◌, ◌<◌, ◌≤◌, false, nat_eq, List, get_or, set, refl, sym, ap, subst, ◌∙◌, arith, inl, inr, IsTrue}
use Rattle.std.specs.Prelude.{if◌then◌else◌}
use Rattle.std.specs.Int.{bit_at}
use Rattle.std.proofs.lemmas.Bool.{cases_eq, eq-eqb, ne_eqb}
use Rattle.fs_layout.specs.declared.geometry.Geometry.{Geometry}
use Rattle.fs_layout.specs.Header.{log_end}
use Rattle.fs_layout.specs.Bytes.{SectorMap, IsSector}
use Rattle.fs_layout.specs.Geometry.{IsGeometry}
use Rattle.fs_layout.specs.Images.{HasWholeTables, bit}
use Rattle.fs_layout.specs.InodeChanges.{Puts}
use Rattle.fs_layout.proofs.Bits.{bit_kept}
use Rattle.fs_layout.proofs.Places.{after_map, before_data}
use Rattle.sector_txn.specs.Sectors.{TxnState, SameStore, IsPut, PutsOnly}
use Rattle.sector_txn.proofs.TransactionRuns.{room_for, changes_weaker}
use Rattle.bit_alloc.specs.declared.bitmap.Bitmap.{Bitmap}
use Rattle.bit_alloc.specs.declared.bitmap.Bitmap.TheVariants.{Inodes, Blocks}
use Rattle.bit_alloc.specs.Bits.{SetsNumber, SetsListed}
use Rattle.bit_alloc.specs.Bitmaps.{first_sector, bit_count, least, IsNumber, IsNumberOf, free_numbers, sector_of, IsSectorOf, IsMapSector, Marks, TakesNumber, TakesNumbers, HasRestSet, HasBitmaps}
use Rattle.bit_alloc.specs.Room.{bitmaps, HasSpare}
use Rattle.bit_alloc.proofs.Chains.{chain_none, chain_weaker, chain_joined, chain_one}
use Rattle.bit_alloc.proofs.Listed.{bit_set_same, bit_set_other, seen, listed_put}
use Rattle.bit_alloc.proofs.Maps.{clear_is_free}
use Rattle.bit_alloc.proofs.Marking.{IsSector-set, one_less_free, tables_kept, rest_kept, in_bitmaps}

-- ---- in one sector
-- the lowest bit that is clear becomes set
pub sets_number : {t : List ℕ} (k b byte : ℕ) → IsSector t → b < 4096 → bit (λ _. t) 0 b ≡ false → byte < 256 → IsTrue (nat_eq (bit_at byte (b % 8)) 1)
    → ((i : ℕ) → i < 8 → i ≢ b % 8 → bit_at byte i ≡ bit_at (get_or t (b / 8) 0) i) → SetsNumber k (4096 * k + b) t (set t (b / 8) byte)
unfolding bit
sets_number {t} k b byte whole few clear small here others =
    let n : ℕ = 4096 * k + b in
    let place : b / 8 ≡ n % 4096 / 8 = omega (arith, few) in
    let bit_place : b % 8 ≡ n % 8 = omega arith in
    let longer : set t (b / 8) byte ≡ set t (n % 4096 / 8) byte = ap (λ (i : ℕ). set t i byte) place in
    record {
      here = omega (arith, few);
      clear = ap (λ (i : ℕ). nat_eq (bit_at (get_or t i 0) (n % 8)) 1) (sym place ∙ (let e : b / 8 ≡ b % 4096 / 8 = omega (arith, few) in e))
          ∙ ap (λ (i : ℕ). nat_eq (bit_at (get_or t (b % 4096 / 8) 0) i) 1) (sym bit_place) ∙ clear;
      set = ap (λ (s : List ℕ). bit (λ _. s) 0 n) longer ∙ bit_set_same t n byte whole.len ∙ ap (λ (i : ℕ). nat_eq (bit_at byte i) 1) (sym bit_place) ∙ here;
      others = λ m at ne. ap (λ (s : List ℕ). bit (λ _. s) 0 m) longer
          ∙ bit_set_other t n byte m whole.len
          (λ i lt off. others i lt (λ e. off (e ∙ bit_place)) ∙ ap (λ (j : ℕ). bit_at (get_or t j 0) i) place)
          (at ∙ (let e : k ≡ n / 4096 = omega (arith, few) in e)) ne;
      whole = IsSector-set t (b / 8) byte whole (omega (arith, few)) small;
    }

pub sets_none : {numbers : List ℕ} {k from : ℕ} {s : List ℕ} → SetsListed numbers k from from s s
sets_none = record { steps = chain_none }

-- a number more
pub sets_one : {numbers longer : List ℕ} {k from i : ℕ} {s t u : List ℕ} → SetsListed numbers k from i s t → from ≤ i
    → ((j : ℕ) → j < i → get_or longer j 0 ≡ get_or numbers j 0) → SetsNumber k (get_or longer i 0) t u → SetsListed longer k from (i + 1) s u
sets_one {k = k} so_far low same one = record {
  steps = chain_one (chain_weaker (λ j x y lt. subst (λ (n : ℕ). SetsNumber k n x y) (sym (same j lt))) so_far.steps) low one;
}

-- where none was set the sector is as it was
pub sets_nothing : {numbers : List ℕ} {k from end : ℕ} {s t : List ℕ} → SetsListed numbers k from end s t → end ≡ from → s ≡ t
sets_nothing c is = sym c.steps.first ∙ ap c.steps.until (sym is) ∙ c.steps.last

-- ---- in the bitmap
-- the sectors with another content for one
abbrev with_sector : SectorMap → ℕ → List ℕ → SectorMap
with_sector image s x t = if nat_eq t s then x else image t

at_sector : (image : SectorMap) (s : ℕ) (x : List ℕ) → with_sector image s x s ≡ x
at_sector image s x = rw (eq-eqb s s refl) refl

off_sector : (image : SectorMap) (s : ℕ) (x : List ℕ) (t : ℕ) → t ≢ s → with_sector image s x t ≡ image t
off_sector image s x t ne = rw (ne_eqb t s ne) refl

-- what numbers are taken from
record HasTables (p : Geometry) (image : SectorMap) : Type 0 where
  pub tables : HasWholeTables p image
  pub rest : HasRestSet p image

still_has : {p : Geometry} {map : Bitmap} {n : ℕ} {old new : SectorMap} → HasTables p old → TakesNumber p map n old new → HasTables p new
still_has {p} {map} {n} {old} {new} has c = record {
  tables = tables_kept p map n old new has.tables c.mark;
  rest = rest_kept p map n old new has.rest (c.free.0, c.free.1) c.mark;
}

module _ {p : Geometry} {map : Bitmap} {numbers : List ℕ} {from end : ℕ} {old new : SectorMap} (c : TakesNumbers p map numbers from end old new) where
  has_from : HasTables p old → (d : ℕ) → from + d ≤ end → HasTables p (c.steps.until (from + d))
  has_from has zero le =
      let same : from + 0 ≡ from = omega arith in
      subst (HasTables p) (sym (ap c.steps.until same ∙ c.steps.first)) has
  has_from has (suc d) le =
      let next : from + d + 1 ≡ from + suc d = omega arith in
      subst (λ (i : ℕ). HasTables p (c.steps.until i)) next (still_has (has_from has d (omega (arith, le))) (c.steps.each (from + d) (omega arith) (omega (arith, le))))

  has_then : from ≤ end → HasTables p old → HasTables p new
  has_then ordered has =
      let all : from + (end - from) ≡ end = omega (arith, ordered) in
      subst (HasTables p) (ap c.steps.until all ∙ c.steps.last) (has_from has (end - from) (omega (arith, ordered)))

  free_from : (d : ℕ) → from + d ≤ end → free_numbers p map old ≡ free_numbers p map (c.steps.until (from + d)) + d
  free_from zero le =
      let same : from + 0 ≡ from = omega arith in
      let e = ap (free_numbers p map) (ap c.steps.until same ∙ c.steps.first) in omega (arith, e)
  free_from (suc d) le =
      let next : from + d + 1 ≡ from + suc d = omega arith in
      let one = (c.steps.each (from + d) (omega arith) (omega (arith, le))).count in
      let e = ap (λ (i : ℕ). free_numbers p map (c.steps.until i)) next in
      let before = free_from d (omega (arith, le)) in
      omega (arith, one, e, before)

  -- so many fewer are free
  pub fewer_free : from ≤ end → free_numbers p map old ≡ free_numbers p map new + (end - from)
  fewer_free ordered =
      let all : from + (end - from) ≡ end = omega (arith, ordered) in
      let e = ap (free_numbers p map) (ap c.steps.until all ∙ c.steps.last) in
      let count = free_from (end - from) (omega (arith, ordered)) in
      omega (arith, count, e)

  -- each is a number
  pub taken_is_number : (n : ℕ) → IsNumberOf numbers from end n → IsNumber p map n
  taken_is_number n w =
      let free = (c.steps.each w.place w.from w.before).free in
      subst (IsNumber p map) w.is (free.0, free.1)

  pub taken_listed : IsGeometry p → (i : ℕ) → from ≤ i → i < end → IsNumberOf numbers from end (get_or numbers i 0)
  taken_listed geometry i low high = record {
    place = i;
    from = low;
    before = high;
    is = refl;
    some = λ e. let least = least_some map geometry in let ge = (c.steps.each i low high).free.0 in omega (arith, e, least, ge);
  }
    where
      least_some : (map : Bitmap) → IsGeometry p → 0 < least p map
      least_some Inodes geometry = omega arith
      least_some Blocks geometry = let after = before_data geometry in let m = after_map geometry in omega (arith, after, m)

pub bitmaps_taken : {p : Geometry} {map : Bitmap} {numbers : List ℕ} {from end : ℕ} {old new : TxnState} → HasBitmaps p old → SameStore old new → from ≤ end
    → TakesNumbers p map numbers from end old.sectors new.sectors → HasBitmaps p new
bitmaps_taken {p} {map} {numbers} {from} {end} {old} {new} has store ordered c =
    let longer = has_then c ordered (record { tables = has.tables; rest = has.rest }) in
    record {
      geometry = has.geometry;
      disk = omega (arith, has.disk, store.reads.narrowed.size);
      header = omega (arith, has.header, ap log_end store.header);
      tables = longer.tables;
      rest = longer.rest;
    }

pub takes_none : {p : Geometry} {map : Bitmap} {numbers : List ℕ} {from : ℕ} {image : SectorMap} → TakesNumbers p map numbers from from image image
takes_none = record { steps = chain_none }

-- those up to a place, and then the next
pub takes_joined : {p : Geometry} {map : Bitmap} {numbers longer : List ℕ} {from next end : ℕ} {old mid new : SectorMap} → TakesNumbers p map numbers from next old mid
    → ((j : ℕ) → j < next → get_or longer j 0 ≡ get_or numbers j 0) → from ≤ next → next < end → TakesNumbers p map longer next end mid new → TakesNumbers p map longer from end old new
takes_joined {p} {map} a same low more b = record {
  steps = chain_joined (chain_weaker (λ j x y lt. subst (λ (n : ℕ). TakesNumber p map n x y) (sym (same j lt))) a.steps) low more b.steps;
}

-- nothing is read but what is there
pub takes_after : {p : Geometry} {map : Bitmap} {numbers : List ℕ} {from end : ℕ} {old mid new : SectorMap} → old ≡ mid → TakesNumbers p map numbers from end mid new
    → TakesNumbers p map numbers from end old new
takes_after {p} {map} {numbers} {from} {end} {new = new} same c = subst (λ (image : SectorMap). TakesNumbers p map numbers from end image new) (sym same) c

-- ---- those of one sector
module _ {p : Geometry} (map : Bitmap) (k : ℕ) (geometry : IsGeometry p) (low : 4096 * k + 4096 ≤ bit_count p map) (within : IsMapSector p map (first_sector p map + k)) where
  -- one of them
  number_taken : {n : ℕ} {s t : List ℕ} {old new : SectorMap} → HasTables p old → s ≡ old (first_sector p map + k) → Puts (first_sector p map + k) t old new → SetsNumber k n s t
      → TakesNumber p map n old new
  number_taken {n} {s} {t} {old} {new} has here put c =
      let start : ℕ = first_sector p map in
      let before : (m : ℕ) → m / 4096 ≡ k → bit (λ _. s) 0 m ≡ bit old start m = λ m e. seen old start m s (here ∙ ap (λ (j : ℕ). old (start + j)) (sym e)) in
      let after : (m : ℕ) → m / 4096 ≡ k → bit (λ _. t) 0 m ≡ bit new start m = λ m e. seen new start m t (sym put.here ∙ ap (λ (j : ℕ). new (start + j)) (sym e)) in
      let at = c.here in
      let free = clear_is_free p map old n has.rest (omega (arith, at, low)) (sym (before n c.here) ∙ c.clear) in
      let bits : (m : ℕ) → m ≢ n → bit new start m ≡ bit old start m = λ m ne. elim (cases_eq (m / 4096) k) [
        | inl e ↦ sym (after m e) ∙ c.others m e ne ∙ before m e
        | inr off ↦ bit_kept old new start m (put.others (start + m / 4096) (λ e. off (omega (arith, e))))
      ] in
      let tables : HasWholeTables p new = λ u from to. elim (cases_eq u (start + k)) [
        | inl e ↦ subst IsSector (sym (ap new e ∙ put.here)) c.whole
        | inr ne ↦ subst IsSector (sym (put.others u ne)) (has.tables u from to)
      ] in
      let mark : Marks p map n old new = marks map tables bits (λ u ban. put.others u (λ e. ban (subst (IsMapSector p map) (sym e) within))) in
      let now : IsTrue (bit new start n) = sym (after n c.here) ∙ c.set in
      record { free = free; mark = mark; set = now; count = one_less_free p map n old new geometry free mark now }
    where
      marks : (map : Bitmap) → HasWholeTables p new → ((m : ℕ) → m ≢ n → bit new (first_sector p map) m ≡ bit old (first_sector p map) m)
          → ((u : ℕ) → (IsMapSector p map u → ⊥) → new u ≡ old u) → Marks p map n old new
      marks Inodes tables bits others = record { sectors = tables; bits = λ m lt ne. bits m ne; others = others }
      marks Blocks tables bits others = record { sectors = tables; bits = λ m lt ne. bits m ne; others = others }

  -- all of them, where the sector is put once
  pub takes_listed : {numbers : List ℕ} {from end : ℕ} {s t : List ℕ} {old new : SectorMap} → HasWholeTables p old → HasRestSet p old → s ≡ old (first_sector p map + k)
      → Puts (first_sector p map + k) t old new → SetsListed numbers k from end s t → TakesNumbers p map numbers from end old new
  takes_listed {numbers} {from} {end} {s} {t} {old} {new} tables rest here put c = record {
    steps = record {
      until = until;
      first = λ i u. is_old u i;
      last = λ i u. is_new u i;
      each = λ i ge lt. step i (has_at i ge lt) ge lt;
    };
  }
    where
      at : ℕ
      at = first_sector p map + k

      until : ℕ → SectorMap
      until i = with_sector old at (c.steps.until i)

      is_old : (u : ℕ) → until from u ≡ old u
      is_old u = elim (cases_eq u at) [
        | inl e ↦ subst (λ (v : ℕ). until from v ≡ old v) (sym e) (at_sector old at (c.steps.until from) ∙ c.steps.first ∙ here)
        | inr ne ↦ off_sector old at (c.steps.until from) u ne
      ]

      is_new : (u : ℕ) → until end u ≡ new u
      is_new u = elim (cases_eq u at) [
        | inl e ↦ subst (λ (v : ℕ). until end v ≡ new v) (sym e) (at_sector old at (c.steps.until end) ∙ c.steps.last ∙ sym put.here)
        | inr ne ↦ off_sector old at (c.steps.until end) u ne ∙ sym (put.others u ne)
      ]

      puts : (i : ℕ) → Puts at (c.steps.until (i + 1)) (until i) (until (i + 1))
      puts i = record {
        here = at_sector old at (c.steps.until (i + 1));
        others = λ u ne. off_sector old at (c.steps.until (i + 1)) u ne ∙ sym (off_sector old at (c.steps.until i) u ne);
      }

      step : (i : ℕ) → HasTables p (until i) → from ≤ i → i < end → TakesNumber p map (get_or numbers i 0) (until i) (until (i + 1))
      step i has ge lt = number_taken has (sym (at_sector old at (c.steps.until i))) (puts i) (c.steps.each i ge lt)

      has_since : (d : ℕ) → from + d < end → HasTables p (until (from + d))
      has_since zero lt =
          let same : from + 0 ≡ from = omega arith in
          subst (HasTables p) (sym (ap until same ∙ (λ i u. is_old u i))) (record { tables = tables; rest = rest })
      has_since (suc d) lt =
          let next : from + d + 1 ≡ from + suc d = omega arith in
          subst (λ (i : ℕ). HasTables p (until i)) next (still_has (has_since d (omega (arith, lt))) (step (from + d) (has_since d (omega (arith, lt))) (omega arith) (omega (arith, lt))))

      has_at : (i : ℕ) → from ≤ i → i < end → HasTables p (until i)
      has_at i ge lt =
          let all : from + (i - from) ≡ i = omega (arith, ge) in
          subst (λ (j : ℕ). HasTables p (until j)) all (has_since (i - from) (omega (arith, ge, lt)))

-- ---- the sectors of a bitmap
pub map_sector : (p : Geometry) (map : Bitmap) {k sectors : ℕ} → IsGeometry p → 4096 * sectors ≡ bit_count p map → k < sectors → IsMapSector p map (first_sector p map + k)
map_sector p Inodes geometry all lt = (omega arith, omega (arith, all, lt))
map_sector p Blocks geometry all lt = (omega arith, omega (arith, all, lt))

in_tables : (p : Geometry) (map : Bitmap) {s : ℕ} → IsGeometry p → IsMapSector p map s → (p.inode_bitmap ≤ s) × (s < p.table)
in_tables p Inodes geometry m = let after = after_map geometry in let lt = m.1 in (m.0, omega (arith, lt, after))
in_tables p Blocks geometry m = let after = after_map geometry in let ge = m.0 in (omega (arith, ge, after), m.1)

-- there is room to put one
pub room_for_map : (p : Geometry) (map : Bitmap) {s : ℕ} (txn : TxnState) → IsMapSector p map s → IsGeometry p → HasSpare p 0 txn → txn.has_put s ≡ false → 0 < txn.room
room_for_map p map {s} txn m geometry spare none =
    let at = in_tables p map geometry m in
    room_for txn (bitmaps p) s (in_bitmaps p s at.0 at.1) (omega (arith, spare)) none

-- one put of the sector of numbers that are taken in it
pub taken_puts : {p : Geometry} {map : Bitmap} {numbers : List ℕ} {k from end : ℕ} {s t : List ℕ} {first last : SectorMap} {old new : TxnState} → IsGeometry p → from < end
    → TakesNumbers p map numbers from end first last → SetsListed numbers k from end s t → IsPut (first_sector p map + k) t old new
    → PutsOnly (IsSectorOf p map (IsNumberOf numbers from end)) (bitmaps p) 0 old new
taken_puts {p} {map} {numbers} {from = from} {end} {t = t} {old = old} {new} geometry some c set put =
    let free = (c.steps.each from (omega arith) some).free in
    listed_put (get_or numbers from 0) geometry free.1 (taken_listed c geometry from (omega arith) some)
    (subst (λ (k : ℕ). IsPut (first_sector p map + k) t old new) (sym (set.steps.each from (omega arith) some).here) put)

-- the sectors of numbers that stay on the list
pub listed_puts_same : {p : Geometry} {map : Bitmap} {numbers longer : List ℕ} {from next : ℕ} {old new : TxnState} → ((j : ℕ) → j < next → get_or longer j 0 ≡ get_or numbers j 0)
    → PutsOnly (IsSectorOf p map (IsNumberOf numbers from next)) (bitmaps p) 0 old new → PutsOnly (IsSectorOf p map (IsNumberOf longer from next)) (bitmaps p) 0 old new
listed_puts_same same puts =
    changes_weaker (λ s w. record {
      number = w.number;
      has = let h = w.has in record { place = h.place; from = h.from; before = h.before; is = same h.place h.before ∙ h.is; some = h.some };
      is = w.is;
    }) (omega arith) puts

-- ---- one number is taken
module _ {p : Geometry} {map : Bitmap} {numbers : List ℕ} {end : ℕ} (some : 0 < end) (most : end ≤ 1) where
  pub takes_first : {old new : SectorMap} → TakesNumbers p map numbers 0 end old new → TakesNumber p map (get_or numbers 0 0) old new
  takes_first {old} {new} takes =
      let run = takes.steps in
      let last : 0 + 1 ≡ end = omega arith in
      subst (λ (image : SectorMap). TakesNumber p map (get_or numbers 0 0) image new) run.first
      (subst (λ (image : SectorMap). TakesNumber p map (get_or numbers 0 0) (run.until 0) image) (ap run.until last ∙ run.last) (run.each 0 (omega arith) some))

  pub puts_first : {old new : TxnState} → PutsOnly (IsSectorOf p map (IsNumberOf numbers 0 end)) (bitmaps p) 0 old new
      → PutsOnly (λ t. t ≡ sector_of p map (get_or numbers 0 0)) (bitmaps p) 0 old new
  puts_first = changes_weaker (λ n is.
      let first : is.has.place ≡ 0 = omega (arith, is.has.before, most) in
      is.is ∙ ap (sector_of p map) (sym is.has.is ∙ ap (λ (i : ℕ). get_or numbers i 0) first)) (omega arith)
