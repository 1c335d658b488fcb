-- How calls on inodes go together: soundness, the room, and the sectors that they put.
use Rattle.std.proofs.Common.{◌≡◌, ℕ, ◌+◌, ◌-◌, ◌/◌, ◌<◌, ◌≤◌, List, sym, ap, subst, ◌∙◌, arith, inl, inr, ◌⊎◌, IsTrue}
use Rattle.std.proofs.lemmas.Bool.{cases_eq, cases_lt}
use Rattle.std.proofs.lemmas.List.FromFn.{length-range_with_len}
use Rattle.fs_layout.specs.declared.geometry.Geometry.{Geometry}
use Rattle.fs_layout.specs.Bytes.{SectorMap, IsSector}
use Rattle.fs_layout.specs.Geometry.{IsGeometry}
use Rattle.fs_layout.specs.Images.{inode_map_bits, bit, free_sectors}
use Rattle.fs_layout.specs.Ownership.{IsConsistent}
use Rattle.fs_layout.specs.InodeChanges.{ChangesInode, MarksInode, Puts}
use Rattle.fs_layout.proofs.Bits.{bit_kept, inode_bit_kept, free_sectors_kept}
use Rattle.fs_layout.proofs.Composes.{both_inodes}
use Rattle.fs_layout.proofs.Consistent.{stays_consistent}
use Rattle.fs_layout.proofs.Places.{after_map, before_data}
use Rattle.sector_txn.specs.Sectors.{TxnState, SameStore, IsPut, PutsOnly}
use Rattle.sector_txn.proofs.TransactionRuns.{changes_joined, lacking_at_most}
use Rattle.bit_alloc.specs.declared.bitmap.Bitmap.{Bitmap}
use Rattle.bit_alloc.specs.declared.bitmap.Bitmap.TheVariants.{Inodes, Blocks}
use Rattle.bit_alloc.specs.Bitmaps.{limit, IsNumber, sector_of, HasRestSet, HasBitmaps}
use Rattle.fs_layout.specs.Header.{max_delta, log_end}
use Rattle.bit_alloc.specs.Inodes.{IsSound, IsSectorFor, Touches}
use Rattle.bit_alloc.specs.Room.{bitmaps, HasSpare}
use Rattle.bit_alloc.proofs.Marking.{sector_below}

-- ---- the bitmaps, where other sectors are put
-- bitmaps depend on the sectors before the data alone
pub bitmaps_kept : (p : Geometry) (old new : TxnState) → HasBitmaps p old → SameStore old new → ((s : ℕ) → p.inode_bitmap ≤ s → s < p.table → new.sectors s ≡ old.sectors s)
    → ((s : ℕ) → p.table ≤ s → s < p.first_data → IsSector (new.sectors s)) → HasBitmaps p new
bitmaps_kept p old new has store same whole = record {
  geometry = has.geometry;
  disk = omega (arith, has.disk, store.reads.narrowed.size);
  header = omega (arith, has.header, ap log_end store.header);
  tables = λ s from to. elim (cases_lt s p.table) [
    | inl low ↦ subst IsSector (sym (same s from low)) (has.tables s from to)
    | inr high ↦ whole s high to
  ];
  rest = rest_same;
}
  where
    rest_same : HasRestSet p new.sectors
    rest_same Inodes n low ban =
        inode_bit_kept p old.sectors new.sectors n low (λ s i. same s i.0 (let below = i.1 in let after = after_map has.geometry in omega (arith, below, after)))
        ∙ has.rest Inodes n low ban
    rest_same Blocks n low ban =
        bit_kept old.sectors new.sectors p.block_bitmap n (same (p.block_bitmap + n / 4096) (let after = after_map has.geometry in omega (arith, after)) (omega (arith, low)))
        ∙ has.rest Blocks n low ban

-- a sector is put past the bitmaps, one of the table whole
pub bitmaps_put : (p : Geometry) (s : ℕ) (x : _) (old new : TxnState) → HasBitmaps p old → p.table ≤ s → IsSector x → IsPut s x old new → HasBitmaps p new
bitmaps_put p s x old new has high whole put =
    bitmaps_kept p old new has put.store (λ t from low. put.sectors.others t (λ e. omega (arith, high, low, e)))
    (λ t from to. elim (cases_eq t s) [
      | inl e ↦ subst IsSector (sym put.sectors.here ∙ ap new.sectors (sym e)) whole
      | inr ne ↦ subst IsSector (sym (put.sectors.others t ne)) (has.tables t (let table = after_map has.geometry in omega (arith, table, from)) to)
    ])

-- a data sector is put
pub put_keeps_bitmaps : {p : Geometry} {s : ℕ} {x : List ℕ} {old new : TxnState} → HasBitmaps p old → SameStore old new → p.first_data ≤ s
    → Puts s x old.sectors new.sectors → HasBitmaps p new
put_keeps_bitmaps {p} {s} {x} {old} {new} has store high put =
    let from = after_map has.geometry in
    let to = before_data has.geometry in
    let same : (t : ℕ) → t < p.first_data → new.sectors t ≡ old.sectors t = λ t low. put.others t (λ e. omega (arith, low, high, e)) in
    bitmaps_kept p old new has store (λ t past low. same t (omega (arith, low, to)))
    (λ t past low. subst IsSector (sym (same t low)) (has.tables t (omega (arith, past, from)) low))

-- ---- soundness
-- of a consistent map
pub sound_from : (p : Geometry) (txn : TxnState) → IsConsistent p txn.sectors → p.sectors ≤ txn.disk.size → log_end txn.header ≤ p.inode_bitmap
    → ((n : ℕ) → n < inode_map_bits p → (n ≡ 0) ⊎ (p.inodes ≤ n) → IsTrue (bit txn.sectors p.inode_bitmap n)) → IsSound p txn
sound_from p txn consistent disk header outside = record {
  consistent = consistent;
  bitmaps = record { geometry = consistent.geometry; disk = disk; header = header; tables = consistent.sectors; rest = rest_set };
}
  where
    rest_set : HasRestSet p txn.sectors
    rest_set Inodes n low ban = elim (cases_lt n p.inodes) [
      | inr past ↦ outside n low (inr past)
      | inl below ↦ elim (cases_eq n 0) [ inl none ↦ outside n low (inl none) | inr some ↦ absurd (ban (omega arith, below)) ]
    ]
    rest_set Blocks n low ban = elim (cases_lt n p.first_data) [
      | inl before ↦ (consistent.block_bits n low).1 (inl before)
      | inr from ↦ elim (cases_lt n p.sectors) [
        | inl below ↦ absurd (ban (from, below))
        | inr past ↦ (consistent.block_bits n low).1 (inr (inl past))
      ]
    ]

-- of one whose inode bitmap has the same bits of what is no inode
pub sound_after : {p : Geometry} {old new : TxnState} → IsSound p old → SameStore old new → IsConsistent p new.sectors
    → ((m : ℕ) → m < inode_map_bits p → (IsNumber p Inodes m → ⊥) → bit new.sectors p.inode_bitmap m ≡ bit old.sectors p.inode_bitmap m) → IsSound p new
sound_after {p} {old} {new} sound store consistent same =
    sound_from p new consistent (omega (arith, sound.bitmaps.disk, store.reads.narrowed.size)) (omega (arith, sound.bitmaps.header, ap log_end store.header))
    (λ m low outside. same m low (none m outside) ∙ sound.bitmaps.rest Inodes m low (none m outside))
  where
    none : (m : ℕ) → (m ≡ 0) ⊎ (p.inodes ≤ m) → IsNumber p Inodes m → ⊥
    none m (inl e) number = let from = number.0 in omega (arith, from, e)
    none m (inr past) number = let below = number.1 in omega (arith, below, past)

-- after a call on one inode
pub sound_then : (p : Geometry) (n taken more : ℕ) (old new : TxnState) → IsSound p old → IsNumber p Inodes n → Touches p n taken more old new → IsSound p new
sound_then p n taken more old new sound is touches =
    sound_after sound touches.puts.store (stays_consistent sound.consistent is.1 touches.inode)
    (λ m low none. touches.inode.inode_bits m low (λ e. none (subst (IsNumber p Inodes) (sym e) is)))

-- two calls on one inode are one
pub touches_joined : (p : Geometry) (n a b j k : ℕ) (old mid new : TxnState) → IsGeometry p → Touches p n a j old mid → Touches p n b k mid new → Touches p n (a + b) (j + k) old new
touches_joined p n a b j k old mid new geometry first then = record {
  puts = changes_joined first.puts then.puts;
  super = then.super ∙ first.super;
  inode = both_inodes geometry first.inode then.inode;
  free = omega (arith, first.free, then.free);
}

-- ---- the sectors that a call on one inode puts
-- sector 0 is none of them
pub super_kept : (p : Geometry) (n more : ℕ) (old new : TxnState) → IsGeometry p → PutsOnly (IsSectorFor p n) (bitmaps p) more old new → new.sectors 0 ≡ old.sectors 0
super_kept p n more old new geometry puts = puts.others 0 no
  where
    no : IsSectorFor p n 0 → ⊥
    no (inl map) = let from = map.0 in let after = after_map geometry in omega (arith, from, after)
    no (inr (inl table)) = let past = after_map geometry in omega (arith, past, table)
    no (inr (inr s)) = let from = s.0 in let table = before_data geometry in let past = after_map geometry in omega (arith, past, table, from)

-- two changes of one inode, of which the puts and the free sectors are known, touch no more than it
pub touched : {p : Geometry} {n taken more : ℕ} {old new : TxnState} {mid : SectorMap} → IsGeometry p → PutsOnly (IsSectorFor p n) (bitmaps p) more old new
    → ChangesInode p n old.sectors mid → ChangesInode p n mid new.sectors → free_sectors p old.sectors ≤ free_sectors p new.sectors + taken
    → Touches p n taken more old new
touched {p} {n} {more = more} {old} {new} geometry puts first then free = record {
  puts = puts;
  super = super_kept p n more old new geometry puts;
  inode = both_inodes geometry first then;
  free = free;
}

-- that of a number's bit is one
pub mark_is_for : (p : Geometry) (n : ℕ) (map : Bitmap) (m s : ℕ) → IsGeometry p → m < limit p map → s ≡ sector_of p map m → IsSectorFor p n s
mark_is_for p n map m s geometry low is =
    let at = sector_below p map m geometry low in
    inl (omega (arith, at.0, is), omega (arith, at.1, is))

-- ---- the room
-- what is left
pub spare_then : (p : Geometry) (more rest : ℕ) {R : ℕ → Type 0} (old new : TxnState) → HasSpare p (rest + more) old → PutsOnly R (bitmaps p) more old new → HasSpare p rest new
spare_then p more rest old new spare puts = omega (arith, spare, puts.room)

-- at the start
pub spare_first : (p : Geometry) (txn : TxnState) → IsGeometry p → txn.room ≡ max_delta p.header → HasSpare p 47 txn
spare_first p txn geometry room =
    let enough = geometry.room in
    omega (arith, lacking_at_most txn (bitmaps p), length-range_with_len p.inode_bitmap (p.table - p.inode_bitmap), enough, room)

-- ---- an inode's bit
pub free_kept : (p : Geometry) (n : ℕ) (old new : SectorMap) → MarksInode p n old new → free_sectors p new ≡ free_sectors p old
free_kept p n old new mark = free_sectors_kept p old new (λ s here. bit_kept old new p.block_bitmap s (mark.others (p.block_bitmap + s / 4096) (λ i. let low = i.1 in omega (arith, low))))
