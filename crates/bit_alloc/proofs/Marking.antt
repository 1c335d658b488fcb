-- The bit of a number is written.
use Rattle.std.proofs.Common.{◌≡◌, ◌≢◌, ℕ, ◌+◌, ◌-◌, ◌/◌, ◌%◌, ◌<◌, ◌≤◌, false, not, List, length, get_or, set, refl, sym, ap, subst, ◌∙◌, arith, inl, inr, IsTrue}
use Rattle.std.specs.Prelude.{Contains}
use Rattle.std.specs.Int.{bit_at}
use Rattle.std.proofs.lemmas.Bool.{cases_eq}
use Rattle.std.proofs.lemmas.List.{length-set, get_or-set_same, get_or-set_other}
use Rattle.std.proofs.lemmas.List.FromFn.{length-range_with_len, get_or-range_with_len}
use Rattle.fs_layout.specs.Header.{log_end}
use Rattle.fs_layout.specs.declared.geometry.Geometry.{Geometry}
use Rattle.fs_layout.specs.Bytes.{SectorMap, IsSector}
use Rattle.fs_layout.specs.Geometry.{IsGeometry}
use Rattle.fs_layout.specs.Images.{HasWholeTables, bit}
use Rattle.fs_layout.proofs.Places.{after_map}
use Rattle.fs_layout.proofs.Bits.{has_bit, inode_has_bit, bit_kept, inode_bit_kept, PutsByte, free_sectors_less, free_sectors_more}
use Rattle.fs_layout.proofs.Marks.{marks_sector, marks_inode}
use Rattle.sector_txn.specs.Sectors.{TxnState, SameStore, IsPut, PutsOnly}
use Rattle.sector_txn.proofs.TransactionRuns.{changes_nothing, changes_put_shared, room_for}
use Rattle.bit_alloc.specs.declared.bitmap.Bitmap.{Bitmap}
use Rattle.bit_alloc.specs.declared.bitmap.Bitmap.TheVariants.{Inodes, Blocks}
use Rattle.bit_alloc.specs.Bitmaps.{first_sector, bit_count, limit, IsNumber, IsFreeNumber, free_numbers, sector_of, Marks, HasRestSet, HasBitmaps}
use Rattle.bit_alloc.specs.Room.{bitmaps, HasSpare}
use Rattle.fs_layout.proofs.Counting.{count_one_more}

-- ---- the sector of a number's bit
pub in_bitmaps : (p : Geometry) (s : ℕ) → p.inode_bitmap ≤ s → s < p.table → Contains (bitmaps p) s
in_bitmaps p s from to =
    let first = p.inode_bitmap in
    let k : ℕ = s - first in
    let few : k < p.table - first = omega arith in
    let back : first + k ≡ s = omega arith in
    (k, omega (arith, few, length-range_with_len first (p.table - first)), get_or-range_with_len first (p.table - first) k s few ∙ back)

-- the sector is one of a bitmap
pub sector_below : (p : Geometry) (map : Bitmap) (n : ℕ) → IsGeometry p → n < limit p map → (p.inode_bitmap ≤ sector_of p map n) × (sector_of p map n < p.table)
sector_below p Inodes n geometry lt = let bits = geometry.inode_bits in let after = after_map geometry in (omega arith, omega (arith, bits, lt, after))
sector_below p Blocks n geometry lt = let bits = geometry.bits in let after = after_map geometry in (omega (arith, after), omega (arith, bits, lt))

-- there is room to put it
pub room_to_mark : (p : Geometry) (map : Bitmap) (n : ℕ) (txn : TxnState) → IsGeometry p → n < limit p map → HasSpare p 0 txn → txn.has_put (sector_of p map n) ≡ false → 0 < txn.room
room_to_mark p map n txn geometry lt spare none =
    let at = sector_below p map n geometry lt in
    room_for txn (bitmaps p) (sector_of p map n) (in_bitmaps p (sector_of p map n) at.0 at.1) (omega (arith, spare)) none

-- and it takes none of what is left besides
pub marked_puts : (p : Geometry) (map : Bitmap) (n : ℕ) (content : List ℕ) (old new : TxnState) → IsGeometry p → n < limit p map → IsPut (sector_of p map n) content old new
    → PutsOnly (λ t. t ≡ sector_of p map n) (bitmaps p) 0 old new
marked_puts p map n content old new geometry lt put =
    let at = sector_below p map n geometry lt in
    changes_put_shared (changes_nothing (bitmaps p)) put refl (in_bitmaps p (sector_of p map n) at.0 at.1)

-- ---- what the write is
-- a sector with another byte is one
pub IsSector-set : (s : List ℕ) (i b : ℕ) → IsSector s → i < 512 → b < 256 → IsSector (set s i b)
IsSector-set s i b whole lt small = record {
  len = length-set s i b ∙ whole.len;
  bytes = λ j. elim (cases_eq j i) [
    | inl e ↦
        let here : get_or (set s i b) j 0 ≡ b = ap (λ (k : ℕ). get_or (set s i b) k 0) e ∙ get_or-set_same s i b 0 (omega (arith, whole.len, lt)) in
        omega (arith, here, small)
    | inr ne ↦ subst (λ (k : ℕ). k < 256) (sym (get_or-set_other s i j b 0 ne)) (whole.bytes j)
  ];
}

-- a put of the sector with another byte for the bit of n
pub puts_byte : (p : Geometry) (map : Bitmap) (n b at : ℕ) (s : List ℕ) (old new : TxnState) → at ≡ first_sector p map → s ≡ old.sectors (sector_of p map n) → length s ≡ 512
    → IsPut (at + n / 4096) (set s (n % 4096 / 8) b) old new → PutsByte (first_sector p map) n b old.sectors new.sectors
puts_byte p map n b at s old new start is len put =
    let same : at + n / 4096 ≡ sector_of p map n = ap (λ (k : ℕ). k + n / 4096) start in
    record {
      here = ap new.sectors (sym same) ∙ put.sectors.here ∙ ap (λ (t : List ℕ). set t (n % 4096 / 8) b) is;
      len = ap length (sym is) ∙ len;
      others = λ t ne. put.sectors.others t (λ e. ne (e ∙ same));
    }

pub whole_then : (p : Geometry) (map : Bitmap) (n b at : ℕ) (s : List ℕ) (old new : TxnState) → at ≡ first_sector p map → IsSector s → b < 256
    → IsPut (at + n / 4096) (set s (n % 4096 / 8) b) old new → IsSector (new.sectors (sector_of p map n))
whole_then p map n b at s old new start whole small put =
    let same : at + n / 4096 ≡ sector_of p map n = ap (λ (k : ℕ). k + n / 4096) start in
    subst IsSector (sym put.sectors.here ∙ ap new.sectors same) (IsSector-set s (n % 4096 / 8) b whole (omega arith) small)

-- one bit of it changes
pub written_marks : (p : Geometry) (map : Bitmap) (n b : ℕ) (old new : SectorMap) → IsGeometry p → n < limit p map → HasWholeTables p old → PutsByte (first_sector p map) n b old new
    → IsSector (new (sector_of p map n)) → ((i : ℕ) → i < 8 → i ≢ n % 8 → bit_at b i ≡ bit_at (get_or (old (sector_of p map n)) (n % 4096 / 8) 0) i) → Marks p map n old new
written_marks p Inodes n b old new geometry lt tables put whole others =
    marks_inode tables (inode_has_bit geometry n lt) put whole others
written_marks p Blocks n b old new geometry lt tables put whole others = marks_sector tables geometry (has_bit geometry n lt) put whole others

-- ---- what it leaves
-- no other bit of either bitmap changes
pub others_kept : (p : Geometry) (map : Bitmap) (n : ℕ) (old new : SectorMap) → Marks p map n old new → (other : Bitmap) (m : ℕ) → m < bit_count p other
    → ((other ≡ map) → m ≢ n) → bit new (first_sector p other) m ≡ bit old (first_sector p other) m
others_kept p Inodes n old new mark Inodes m low ne = mark.bits m low (ne refl)
others_kept p Inodes n old new mark Blocks m low ne = bit_kept old new p.block_bitmap m (mark.others (p.block_bitmap + m / 4096) (λ i. let low = i.1 in omega (arith, low)))
others_kept p Blocks n old new mark Inodes m low ne = inode_bit_kept p old new m low (λ t i. mark.others t (λ b. let below = i.1 in let from = b.0 in omega (arith, below, from)))
others_kept p Blocks n old new mark Blocks m low ne = mark.bits m low (ne refl)

-- the tables stay whole
pub tables_kept : (p : Geometry) (map : Bitmap) (n : ℕ) (old new : SectorMap) → HasWholeTables p old → Marks p map n old new → HasWholeTables p new
tables_kept p Inodes n old new tables mark = mark.sectors
tables_kept p Blocks n old new tables mark = mark.sectors

-- and the bits that are no number's set
pub rest_kept : (p : Geometry) (map : Bitmap) (n : ℕ) (old new : SectorMap) → HasRestSet p old → IsNumber p map n → Marks p map n old new → HasRestSet p new
rest_kept p map n old new rest is mark = λ other m low ban.
    others_kept p map n old new mark other m low (λ same e. ban (subst (λ (q : Bitmap). IsNumber p q m) (sym same) (subst (IsNumber p map) (sym e) is))) ∙ rest other m low ban

pub bitmaps_marked : (p : Geometry) (map : Bitmap) (n : ℕ) (old new : TxnState) → HasBitmaps p old → SameStore old new → IsNumber p map n → Marks p map n old.sectors new.sectors → HasBitmaps p new
bitmaps_marked p map n old new has store is mark = record {
  geometry = has.geometry;
  disk = omega (arith, has.disk, store.reads.narrowed.size);
  header = omega (arith, has.header, ap log_end store.header);
  tables = tables_kept p map n old.sectors new.sectors has.tables mark;
  rest = rest_kept p map n old.sectors new.sectors has.rest is mark;
}

-- ---- how many are free then
-- one less where a free number is taken
pub one_less_free : (p : Geometry) (map : Bitmap) (n : ℕ) (old new : SectorMap) → IsGeometry p → IsFreeNumber p map old n → Marks p map n old new → IsTrue (bit new (first_sector p map) n)
    → free_numbers p map old ≡ free_numbers p map new + 1
one_less_free p Inodes n old new geometry free mark now =
    count_one_more (λ m. not (bit old p.inode_bitmap m)) (λ m. not (bit new p.inode_bitmap m)) 0 p.inodes n (omega arith) (let lt = free.1 in omega (arith, lt)) (ap not free.2) (ap not now)
    (λ m from to ne. ap not (sym (mark.bits m (inode_has_bit geometry m (omega (arith, to))) ne)))
one_less_free p Blocks n old new geometry free mark now =
    free_sectors_less p old new n free now (λ m here ne. mark.bits m (has_bit geometry m here.1) ne)

-- one more where one is given back
pub one_more_free : (p : Geometry) (map : Bitmap) (n : ℕ) (old new : SectorMap) → IsGeometry p → IsNumber p map n → Marks p map n old new → bit new (first_sector p map) n ≡ false
    → IsTrue (bit old (first_sector p map) n) → free_numbers p map new ≡ free_numbers p map old + 1
one_more_free p Inodes n old new geometry is mark now was =
    count_one_more (λ m. not (bit new p.inode_bitmap m)) (λ m. not (bit old p.inode_bitmap m)) 0 p.inodes n (omega arith) (let lt = is.1 in omega (arith, lt)) (ap not now) (ap not was)
    (λ m from to ne. ap not (mark.bits m (inode_has_bit geometry m (omega (arith, to))) ne))
one_more_free p Blocks n old new geometry is mark now was =
    free_sectors_more p old new n is was now (λ m here ne. mark.bits m (has_bit geometry m here.1) ne)
