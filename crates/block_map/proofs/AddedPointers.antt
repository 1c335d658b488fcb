-- The inode gets a sector of pointers, or has it.
use Rattle.std.proofs.Common.{◌≡◌, ◌≢◌, ℕ, zero, suc, ◌+◌, ◌-◌, ◌*◌, ◌/◌, ◌^◌, ◌<◌, ◌≤◌, true, List, [], ◌∷◌, ◌++◌, get_or, refl, sym, ap, subst, ◌∙◌, arith, inl, inr, ◌⊎◌}
use Rattle.std.proofs.lemmas.Bool.{cases_eq, eq-eqb, lt-ltb, le-ltb}
use Rattle.fs_layout.specs.declared.inode.Inode.{Inode}
use Rattle.fs_layout.specs.declared.inode.TheConstants.{POINTER_LEVELS, SECTOR_POINTERS}
use Rattle.fs_layout.specs.declared.geometry.Geometry.{Geometry}
use Rattle.fs_layout.specs.Bytes.{SectorMap, splice, le32, zeros}
use Rattle.fs_layout.specs.Images.{holder, place_in_holder, number_on, first_block, OnLevel, part, Owns, Holds, free_sectors}
use Rattle.fs_layout.specs.InodeChanges.{Keeps, Puts, PutsEntry, Allocates, Gains, with_indirect}
use Rattle.fs_layout.specs.Geometry.{IsGeometry}
use Rattle.fs_layout.proofs.Blocks.{nothing_changes}
use Rattle.fs_layout.proofs.Parts.{KeepsPointers, level_is_one, index_is_one, pointers_kept, owns_on_level}
use Rattle.fs_layout.proofs.Pointers.{gains_named, number_on_named}
use Rattle.fs_layout.proofs.Steps.{allocates_keeps, allocated_some, named_gained, named_gained_holds, entry_content, entry_keeps, entry_pointers, entry_pointers_gained, entry_pointers_hold}
use Rattle.fs_layout.proofs.UsedInodes.{with_indirect_fits}
use Rattle.fs_layout.proofs.Places.{numbers_most}
use Rattle.sector_txn.specs.Sectors.{TxnState, SameStore, IsUnchanged, PutsOnly, lacking}
use Rattle.sector_txn.proofs.TransactionRuns.{changes_nothing, changes_weaker, lacking_less}
use Rattle.bit_alloc.specs.Bitmaps.{HasBitmaps}
use Rattle.bit_alloc.specs.Room.{bitmaps}
use Rattle.bit_alloc.proofs.Transactions.{puts_after}
use Rattle.bit_alloc.proofs.Soundness.{put_keeps_bitmaps}
use Rattle.block_map.specs.declared.blocks.Blocks.{Blocks}
use Rattle.block_map.specs.Blocks.{IsAtHand, IsTaken}
use Rattle.block_map.specs.Steps.{MayChange, IsStepSector, Alters, lack, numbers_on, sectors_to, AddsSector}
use Rattle.block_map.proofs.Alterings.{fields_same, acls_kept, acls_where_kept, altered_after}
use Rattle.block_map.proofs.Numbers.{at_hand_kept, numbers_apart}
use Rattle.block_map.proofs.Rooms.{lacking-append, lacking_beside, lacking_put, puts_among, puts_before, room_among}
use Rattle.block_map.proofs.Runs.{same_map}
use Rattle.block_map.proofs.Writings.{acls_beside, at_hand_content, free_after_put, puts_entry_at}

-- nothing is altered
pub alters_nothing : {p : Geometry} {txn : TxnState} {v : Inode} → MayChange p txn v → Alters p txn txn v v
alters_nothing may = record {
  blocks = nothing_changes may.bitmaps.geometry may.bitmaps.tables may.apart;
  fields = fields_same;
  acls = acls_kept refl refl (λ some. refl) (λ some. refl);
  bitmaps = may.bitmaps;
  fits = may.fits;
}

-- ---- the sector is there
pub sector_there : {p : Geometry} {ns : List ℕ} {level i : ℕ} {txn : TxnState} {v : Inode} → MayChange p txn v → number_on txn.sectors v level i ≢ 0 → AddsSector p ns level i txn txn v v
sector_there {p} {ns} {level} {i} {txn} {v} may there = record {
  alters = alters_nothing may;
  puts = changes_weaker {Q = IsStepSector p} (λ n r. r) (omega arith) (changes_nothing {R = IsStepSector p} (ns ++ bitmaps p));
  room = let l = lacking_beside txn (number_on txn.sectors v level i) (ns ++ bitmaps p) in omega (arith, l.1);
  size = refl;
  there = there;
  others = λ n j ne. refl;
  held = λ bytes h. h;
  free = omega arith;
}

-- ---- the inode gets one
pub one_lacks : (image : SectorMap) (v : Inode) (level i : ℕ) → number_on image v level i ≡ 0 → lack image v level i ≡ 1
one_lacks image v level i none = rw (eq-eqb (number_on image v level i) 0 none) refl

-- the number is its sector's
gained_number : {old new : SectorMap} {v w : Inode} {level i s : ℕ} → Gains old new v w (OnLevel level i) s → number_on new w level i ≡ s
unfolding part
gained_number g = g.now

gained_none : {old new : SectorMap} {v w : Inode} {level i s : ℕ} → Gains old new v w (OnLevel level i) s → number_on old v level i ≡ 0
unfolding part
gained_none g = g.was

-- and the others stay
pub gained_others : {old new : SectorMap} {v w : Inode} {level i s : ℕ} → Gains old new v w (OnLevel level i) s → (n j : ℕ) → (n ≢ level) ⊎ (j ≢ i)
    → number_on new w n j ≡ number_on old v n j
unfolding part
gained_others {level = level} {i} g n j ne = g.others (OnLevel n j) (λ e. elim ne [
  | inl away ↦ away (level_is_one n level j i e)
  | inr away ↦ away (index_is_one n level j i e)
])

pub adds_sector : {p : Geometry} {ns : List ℕ} {level i s : ℕ} {old new : TxnState} {v w : Inode} → Alters p old new v w → Gains old.sectors new.sectors v w (OnLevel level i) s
    → s ≢ 0 → new.has_put s ≡ true → PutsOnly (IsStepSector p) (ns ++ bitmaps p) 1 old new → w.size ≡ v.size
    → ((bytes : List ℕ) → Holds old.sectors v bytes → Holds new.sectors w bytes) → free_sectors p old.sectors ≡ free_sectors p new.sectors + 1
    → AddsSector p ns level i old new v w
adds_sector {p} {ns} {level} {i} {s} {old} {new} {v} {w} alters g some put puts size held free =
    let is : number_on new.sectors w level i ≡ s = gained_number g in
    record {
      alters = alters;
      puts = puts;
      room =
          let r = puts.room in
          let a = lacking_put new s (ns ++ bitmaps p) put in
          let b = ap (λ (u : ℕ). lacking new (u ∷ (ns ++ bitmaps p))) is in
          omega (arith, r, a, b);
      size = size;
      there = λ e. some (sym is ∙ e);
      others = gained_others g;
      held = held;
      free = omega (arith, free, one_lacks old.sectors v level i (gained_none g));
    }

-- what is at hand once one is taken
pub taken_at_hand : {old new : SectorMap} {b c : Blocks} {w : Inode} {level i s : ℕ} → ((n j : ℕ) → (n ≢ level) ⊎ (j ≢ i) → number_on new w n j ≡ number_on old b.inode n j)
    → number_on new w level i ≡ s → new s ≡ zeros 512 → IsAtHand old b → (b.sector ≢ 0 → new b.sector ≡ old b.sector)
    → IsTaken level i s (record b { inode = w }) c → IsAtHand new c
taken_at_hand {old} {new} {b} {c} {w} {level} {i} {s} others now clear h same t = elim (cases_eq level 1) [
  | inl one ↦
      let here = t.here one in record {
        number = ap (λ (u : Inode). number_on new u 1 c.index) t.inode ∙ ap (number_on new w 1) here.0 ∙ ap (λ (n : ℕ). number_on new w n i) (sym one) ∙ now ∙ sym here.1;
        is = λ some. here.2 ∙ sym clear ∙ ap new (sym here.1);
        none = λ none. here.2;
      }
  | inr away ↦
      let kept = t.others away in
      let k = at_hand_kept h w (others 1 b.index (inl (λ e. away (sym e)))) same in record {
        number = ap (λ (u : Inode). number_on new u 1 c.index) t.inode ∙ ap (number_on new w 1) kept.0 ∙ k.number ∙ sym kept.1;
        is = λ some. kept.2 ∙ k.is (λ e. some (kept.1 ∙ e)) ∙ ap new (sym kept.1);
        none = λ none. kept.2 ∙ k.none (sym kept.1 ∙ none);
      }
]

-- the one that it names
module _ {p : Geometry} {s : ℕ} {old new : TxnState} {bits : SectorMap} {x : List ℕ} {v : Inode} (may : MayChange p old v) (clear : x ≡ zeros 512)
    (a : Allocates p s x old.sectors bits new.sectors) (free : free_sectors p old.sectors ≡ free_sectors p new.sectors + 1) (bitmaps_now : HasBitmaps p new)
    (puts : PutsOnly (IsStepSector p) (bitmaps p) 1 old new) (put : new.has_put s ≡ true) where
  geometry : IsGeometry p
  geometry = may.bitmaps.geometry

  keeps : Keeps old.sectors new.sectors v
  keeps = allocates_keeps geometry may.apart a

  some : s ≢ 0
  some = allocated_some geometry may.apart a

  small : s < 2 ^ 32
  small = let l = a.free.1 in let most = numbers_most geometry in omega (arith, l, most)

  -- the inode names it
  named_now : (level : ℕ) → level < POINTER_LEVELS → get_or v.indirect level 0 ≡ 0 → Gains old.sectors new.sectors v (with_indirect v level s) (OnLevel (suc level) 0) s
  named_now level lt none = gains_named old.sectors new.sectors v level s lt may.fits.indirect_len (pointers_kept keeps) none some (a.put.here ∙ clear)

  pub gets_named : (level : ℕ) → level < POINTER_LEVELS → get_or v.indirect level 0 ≡ 0 → 512 * first_block (suc level) 0 < v.size
      → AddsSector p [] (suc level) 0 old new v (with_indirect v level s)
  gets_named level lt none large =
      let alters : Alters p old new v (with_indirect v level s) = record {
        blocks = named_gained geometry may.apart a level lt may.fits.indirect_len none clear;
        fields = record { kind = refl; mode = refl; uid = refl; gid = refl; names = refl; parent = refl; mtime = refl; ctime = refl; atime = refl };
        acls = acls_where_kept refl refl keeps;
        bitmaps = bitmaps_now;
        fits = with_indirect_fits v level s may.fits may.used small;
      } in
      adds_sector alters (named_now level lt none) some put puts refl
      (λ bytes h. named_gained_holds geometry may.apart a level bytes lt may.fits.indirect_len none clear large h) free

  -- by its level
  pub sets_named : (level : ℕ) {w : Inode} → 1 ≤ level → level ≤ POINTER_LEVELS → get_or v.indirect (level - 1) 0 ≡ 0 → 512 * first_block level 0 < v.size
      → w ≡ with_indirect v (level - 1) s → AddsSector p [] level 0 old new v w
  sets_named zero from to none large is = absurd (omega (arith, from))
  sets_named (suc level) {w} from to none large is =
      let own : suc level - 1 ≡ level = omega arith in
      let named : w ≡ with_indirect v level s = is ∙ ap (λ (n : ℕ). with_indirect v n s) own in
      subst (λ (u : Inode). AddsSector p [] (suc level) 0 old new v u) (sym named)
      (gets_named level (omega (arith, to)) (sym (ap (λ (n : ℕ). get_or v.indirect n 0) own) ∙ none) large)

  -- and what is at hand then
  pub named_at_hand : (level : ℕ) {b c : Blocks} {w : Inode} → 1 ≤ level → level ≤ POINTER_LEVELS → get_or v.indirect (level - 1) 0 ≡ 0 → w ≡ with_indirect v (level - 1) s
      → IsAtHand old.sectors b → b.inode ≡ v → IsTaken level 0 s (record b { inode = w }) c → IsAtHand new.sectors c
  named_at_hand zero from to none is h same t = absurd (omega (arith, from))
  named_at_hand (suc level) {b} {c} {w} from to none is h same t =
      let own : suc level - 1 ≡ level = omega arith in
      let named : w ≡ with_indirect v level s = is ∙ ap (λ (n : ℕ). with_indirect v n s) own in
      let g = named_now level (omega (arith, to)) (sym (ap (λ (n : ℕ). get_or v.indirect n 0) own) ∙ none) in
      taken_at_hand (λ n j away. gained_others g n j away ∙ ap (λ (u : Inode). number_on old.sectors u n j) (sym same)) (gained_number g) (a.put.here ∙ clear) h
      (at_hand_content new.sectors h (subst (λ (u : Inode). KeepsPointers old.sectors new.sectors u) (sym same) (pointers_kept keeps)))
      (subst (λ (u : Inode). IsTaken (suc level) 0 s (record b { inode = u }) c) named t)

-- the first of a level stands in the inode
pub first_named : (image : SectorMap) (v : Inode) (level : ℕ) → 1 ≤ level → level ≤ POINTER_LEVELS → number_on image v level 0 ≡ get_or v.indirect (level - 1) 0
first_named image v zero from to = absurd (omega (arith, from))
first_named image v (suc level) from to =
    let own : suc level - 1 ≡ level = omega arith in
    number_on_named image v level (omega (arith, to)) ∙ ap (λ (n : ℕ). get_or v.indirect n 0) (sym own)

-- the others in a sector of the level above, as it was read
pub read_above : (image : SectorMap) (v : Inode) {n : ℕ} (level i : ℕ) → n ≡ number_on image v (level + 1) ((i - 1) / SECTOR_POINTERS)
    → n ≡ number_on image v (suc level) (holder 1 i)
read_above image v level i is = let next : level + 1 ≡ suc level = omega arith in is ∙ ap (λ (m : ℕ). number_on image v m (holder 1 i)) next

-- one that is listed there
module _ (level : ℕ) {p : Geometry} {s u index : ℕ} {old mid new : TxnState} {bits : SectorMap} {x before content : List ℕ} {v : Inode} (may : MayChange p old v) (clear : x ≡ zeros 512)
    (a : Allocates p s x old.sectors bits mid.sectors) (free : free_sectors p old.sectors ≡ free_sectors p mid.sectors + 1) (bitmaps_mid : HasBitmaps p mid)
    (from : 1 ≤ index) (sector : u ≡ number_on old.sectors v (suc (suc level)) (holder 1 index)) (has : u ≢ 0) (loaded : before ≡ old.sectors u)
    (entry : content ≡ splice before (4 * place_in_holder 1 index) (le32 s)) (put : Puts u content mid.sectors new.sectors) (store : SameStore mid new)
    (puts : PutsOnly (IsStepSector p) (u ∷ bitmaps p) 1 old new) (had : new.has_put s ≡ true) (none : number_on old.sectors v (suc level) index ≡ 0) where
  since : Keeps old.sectors mid.sectors v
  since = allocates_keeps may.bitmaps.geometry may.apart a

  owned : Owns old.sectors v u
  owned = subst (λ (t : ℕ). Owns old.sectors v t) (sym sector) (owns_on_level old.sectors v (suc (suc level)) (holder 1 index) (λ e. has (sector ∙ e)))

  listed : PutsEntry v (suc level) index s mid.sectors new.sectors
  listed = puts_entry_at (suc level) index s sector since from has (let l = a.free.1 in let most = numbers_most may.bitmaps.geometry in omega (arith, l, most))
      (entry ∙ ap (λ (r : List ℕ). splice r (4 * place_in_holder 1 index) (le32 s)) (loaded ∙ sym (since u owned))) put

  listed_gained : Gains old.sectors new.sectors v v (OnLevel (suc level) index) s
  listed_gained = entry_pointers may.bitmaps.geometry may.apart a listed clear none

  pub gets_listed : 512 * first_block (suc level) index < v.size → AddsSector p (u ∷ []) (suc level) index old new v v
  gets_listed large =
      let alters : Alters p old new v v = record {
        blocks = entry_pointers_gained may.bitmaps.geometry may.apart a listed clear none;
        fields = fields_same;
        acls = acls_beside (suc level) (holder 1 index) may.apart since sector has put;
        bitmaps = put_keeps_bitmaps bitmaps_mid store (may.apart.each u owned).0 put;
        fits = may.fits;
      } in
      let same : free_sectors p new.sectors ≡ free_sectors p mid.sectors = free_after_put may.bitmaps.geometry (may.apart.each u owned).0 put in
      adds_sector {ns = u ∷ []} alters listed_gained (allocated_some may.bitmaps.geometry may.apart a) had puts refl
      (λ bytes h. entry_pointers_hold may.bitmaps.geometry may.apart a listed clear bytes none large h) (omega (arith, free, same))

  -- of what the inode owns only the sector above differs
  same_at_hand : {b : Blocks} → IsAtHand old.sectors b → b.inode ≡ v → b.sector ≢ 0 → new.sectors b.sector ≡ old.sectors b.sector
  same_at_hand {b} h is some =
      let at : number_on old.sectors v 1 b.index ≡ b.sector = ap (λ (w : Inode). number_on old.sectors w 1 b.index) (sym is) ∙ h.number in
      let there : number_on old.sectors v 1 b.index ≢ 0 = λ e. some (sym at ∙ e) in
      subst (λ (t : ℕ). new.sectors t ≡ old.sectors t) at
      (entry_keeps may.bitmaps.geometry may.apart a listed (number_on old.sectors v 1 b.index) (owns_on_level old.sectors v 1 b.index there)
      (numbers_apart may.apart 1 (suc (suc level)) b.index (holder 1 index) (inl (λ z. absurd (let y = z in omega (arith, y)))) there))

  -- the sector is at hand then, if it has the numbers of blocks
  pub listed_at_hand : {b c : Blocks} → IsAtHand old.sectors b → b.inode ≡ v → IsTaken (suc level) index s (record b { inode = v }) c → IsAtHand new.sectors c
  listed_at_hand {b} {c} h is t =
      taken_at_hand (λ n j away. gained_others listed_gained n j away ∙ ap (λ (w : Inode). number_on old.sectors w n j) (sym is)) (gained_number listed_gained)
      (entry_content may.bitmaps.geometry may.apart a listed ∙ clear) h (same_at_hand h is) t

-- by its level
module _ {p : Geometry} {s u index : ℕ} {old mid new : TxnState} {bits : SectorMap} {x before content : List ℕ} {v : Inode} (may : MayChange p old v) (clear : x ≡ zeros 512)
    (a : Allocates p s x old.sectors bits mid.sectors) (free : free_sectors p old.sectors ≡ free_sectors p mid.sectors + 1) (bitmaps_mid : HasBitmaps p mid)
    (from : 1 ≤ index) (has : u ≢ 0) (loaded : before ≡ old.sectors u) (entry : content ≡ splice before (4 * place_in_holder 1 index) (le32 s))
    (put : Puts u content mid.sectors new.sectors) (store : SameStore mid new) (puts : PutsOnly (IsStepSector p) (u ∷ bitmaps p) 1 old new) (had : new.has_put s ≡ true) where
  pub lists_sector : (level : ℕ) → 1 ≤ level → u ≡ number_on old.sectors v (suc level) (holder 1 index) → number_on old.sectors v level index ≡ 0
      → 512 * first_block level index < v.size → AddsSector p (u ∷ []) level index old new v v
  lists_sector zero low sector none large = absurd (omega (arith, low))
  lists_sector (suc level) low sector none large = gets_listed level may clear a free bitmaps_mid from sector has loaded entry put store puts had none large

  pub lists_at_hand : (level : ℕ) {b c : Blocks} → 1 ≤ level → u ≡ number_on old.sectors v (suc level) (holder 1 index) → number_on old.sectors v level index ≡ 0
      → IsAtHand old.sectors b → b.inode ≡ v → IsTaken level index s (record b { inode = v }) c → IsAtHand new.sectors c
  lists_at_hand zero low sector none h is t = absurd (omega (arith, low))
  lists_at_hand (suc level) low sector none h is t = listed_at_hand level may clear a free bitmaps_mid from sector has loaded entry put store puts had none h is t

-- ---- the sector in which a number stands
pub sectors_near : (image : SectorMap) (v : Inode) (level i : ℕ) → 1 ≤ level → i ≡ 0 → sectors_to image v level i ≡ []
sectors_near image v zero i low e = absurd (omega (arith, low))
sectors_near image v (suc level) i low e = rw (lt-ltb i 1 (omega (arith, e))) refl

pub sectors_far : (image : SectorMap) (v : Inode) (level i : ℕ) → 1 ≤ level → 1 ≤ i → sectors_to image v level i ≡ number_on image v (suc level) (holder 1 i) ∷ []
sectors_far image v zero i low from = absurd (omega (arith, low))
sectors_far image v (suc level) i low from = rw (le-ltb i 1 from) refl

-- ---- others may share the room
pub adds_beside : {p : Geometry} {level i : ℕ} {old new : TxnState} {v w : Inode} → AddsSector p [] level i old new v w → (ns : List ℕ) → AddsSector p ns level i old new v w
adds_beside {p} {level} {i} {old} {new} {v} {w} a ns = record {
  alters = a.alters;
  puts = puts_before a.puts ns;
  room =
      let r = a.room in
      let u = number_on new.sectors w level i in
      let f = lacking_less old new a.puts.kept ns in
      let one = lacking-append new (u ∷ []) (ns ++ bitmaps p) in
      let two = lacking-append new (u ∷ []) (bitmaps p) in
      let three = lacking-append new ns (bitmaps p) in
      let four = lacking-append old ns (bitmaps p) in
      omega (arith, r, f, one, two, three, four);
  size = a.size;
  there = a.there;
  others = a.others;
  held = a.held;
  free = a.free;
}

-- several numbers in place of one of them
pub adds_among : {p : Geometry} {level i : ℕ} {old new : TxnState} {v w : Inode} (image : SectorMap) (u : Inode) (above first count j : ℕ) → first ≤ j → j < first + count
    → AddsSector p (number_on image u above j ∷ []) level i old new v w → AddsSector p (numbers_on image u above first count) level i old new v w
adds_among {p} {level} {i} {old} {new} {v} {w} image u above first count j from to a = record {
  alters = a.alters;
  puts = puts_among image u above first count j from to a.puts;
  room =
      let r = a.room in
      let l = room_among old new a.puts.kept image u above first count j from to (number_on new.sectors w level i) (bitmaps p) in
      omega (arith, r, l);
  size = a.size;
  there = a.there;
  others = a.others;
  held = a.held;
  free = a.free;
}

-- ---- after reads
pub added_after : {p : Geometry} {ns : List ℕ} {level i : ℕ} {old mid new : TxnState} {v w : Inode} → IsUnchanged old mid → AddsSector p ns level i mid new v w
    → AddsSector p ns level i old new v w
added_after {p} {ns} {level} {i} {old} {mid} {new} {v} {w} same a =
    let e : mid.sectors ≡ old.sectors = same_map old.sectors mid.sectors same.sectors in
    record {
      alters = altered_after same a.alters;
      puts = puts_after same a.puts;
      room =
          let r = a.room in
          let l = lacking_less old mid (λ m has. same.delta m ∙ has) (ns ++ bitmaps p) in
          let m = same.room in
          omega (arith, r, l, m);
      size = a.size;
      there = a.there;
      others = λ n j ne. a.others n j ne ∙ ap (λ (image : SectorMap). number_on image v n j) e;
      held = λ bytes h. a.held bytes (subst (λ (image : SectorMap). Holds image v bytes) (sym e) h);
      free =
          let f = a.free in
          let one = ap (free_sectors p) e in
          let two = ap (λ (image : SectorMap). lack image v level i) e in
          omega (arith, f, one, two);
    }
