-- Numbers of a list become free.
use Rattle.std.proofs.Common.{◌≡◌, ◌≢◌, ℕ, zero, suc, ◌+◌, ◌-◌, ◌/◌, ◌%◌, ◌<◌, ◌≤◌, ◌⊎◌, Bool, true, false, not, nat_eq, List, length, get_or, set, refl, sym, ap, subst, ◌∙◌, arith, inl, inr, IsTrue}
use Rattle.std.specs.Prelude.{count_by}
use Rattle.std.specs.Int.{bit_at}
use Rattle.std.specs.List.{range_with_len}
use Rattle.std.proofs.lemmas.Bool.{cases_eq, cases_lt}
use Rattle.std.proofs.lemmas.List.{get_or-set_same, get_or-set_other}
use Rattle.fs_layout.specs.Header.{log_end}
use Rattle.fs_layout.specs.declared.geometry.Geometry.{Geometry}
use Rattle.fs_layout.specs.Bytes.{SectorMap, IsSector}
use Rattle.fs_layout.specs.Geometry.{IsGeometry}
use Rattle.fs_layout.specs.Images.{HasWholeTables, bit}
use Rattle.fs_layout.specs.InodeChanges.{Puts}
use Rattle.fs_layout.proofs.Bits.{has_bit, inode_has_bit, bit_kept, inode_bit_kept}
use Rattle.fs_layout.proofs.Counting.{one_if, count_cons}
use Rattle.sector_txn.specs.Sectors.{TxnState, SameStore, IsPut, PutsOnly}
use Rattle.sector_txn.proofs.TransactionRuns.{changes_joined, changes_weaker}
use Rattle.bit_alloc.specs.declared.bitmap.Bitmap.{Bitmap}
use Rattle.bit_alloc.specs.declared.bitmap.Bitmap.TheVariants.{Inodes, Blocks}
use Rattle.bit_alloc.specs.Bits.{ClearsListed}
use Rattle.bit_alloc.specs.Bitmaps.{first_sector, bit_count, limit, IsNumber, IsNumberOf, free_numbers, sector_of, IsSectorOf, IsMapSector, GivesNumbers, HasBitmaps}
use Rattle.bit_alloc.specs.Room.{bitmaps}
use Rattle.bit_alloc.proofs.Maps.{number_has_bit}
use Rattle.bit_alloc.proofs.Marking.{marked_puts, sector_below}

-- ---- the numbers of a list
pub listed_wider : {numbers : List ℕ} {from end later n : ℕ} → end ≤ later → IsNumberOf numbers from end n → IsNumberOf numbers from later n
listed_wider le w = record { place = w.place; from = w.from; before = omega (arith, w.before, le); is = w.is; some = w.some }

pub listed_earlier : {numbers : List ℕ} {first from end n : ℕ} → first ≤ from → IsNumberOf numbers from end n → IsNumberOf numbers first end n
listed_earlier le w = record { place = w.place; from = omega (arith, w.from, le); before = w.before; is = w.is; some = w.some }

-- between a place and itself there is none
pub none_listed : {numbers : List ℕ} {from n : ℕ} → IsNumberOf numbers from from n → ⊥
none_listed w = omega (arith, w.from, w.before)

-- a zero is none
pub listed_zero : {numbers : List ℕ} {from n : ℕ} → IsNumberOf numbers from (from + 1) n → get_or numbers from 0 ≡ 0 → ⊥
listed_zero {numbers} {from} w none =
    let here : w.place ≡ from = omega (arith, w.from, w.before) in
    w.some (sym w.is ∙ ap (λ (i : ℕ). get_or numbers i 0) here ∙ none)

-- the first is one that the bitmap keeps, if each is
pub first_kept : (p : Geometry) (map : Bitmap) {numbers : List ℕ} {from : ℕ} → ((n : ℕ) → IsNumberOf numbers 0 (length numbers) n → IsNumber p map n) → from < length numbers
    → get_or numbers from 0 ≢ 0 → IsNumber p map (get_or numbers from 0)
first_kept p map {numbers} {from} each within some = each (get_or numbers from 0) (record { place = from; from = omega arith; before = within; is = refl; some = some })

-- ---- in one sector
-- the bit of a byte that is written
pub bit_set_same : (s : List ℕ) (n b : ℕ) → length s ≡ 512 → bit (λ _. set s (n % 4096 / 8) b) 0 n ≡ nat_eq (bit_at b (n % 8)) 1
unfolding bit
bit_set_same s n b len = ap (λ (k : ℕ). nat_eq (bit_at k (n % 8)) 1) (get_or-set_same s (n % 4096 / 8) b 0 (omega (arith, len)))

-- the other bits stay, if those of the byte do
pub bit_set_other : (s : List ℕ) (n b m : ℕ) → length s ≡ 512 → ((i : ℕ) → i < 8 → i ≢ n % 8 → bit_at b i ≡ bit_at (get_or s (n % 4096 / 8) 0) i) → m / 4096 ≡ n / 4096 → m ≢ n
    → bit (λ _. set s (n % 4096 / 8) b) 0 m ≡ bit (λ _. s) 0 m
unfolding bit
bit_set_other s n b m len same sector ne = elim (cases_eq (m % 4096 / 8) (n % 4096 / 8)) [
  | inr away ↦ ap (λ (k : ℕ). nat_eq (bit_at k (m % 8)) 1) (get_or-set_other s (n % 4096 / 8) (m % 4096 / 8) b 0 away)
  | inl there ↦
      let byte : get_or (set s (n % 4096 / 8) b) (m % 4096 / 8) 0 ≡ b =
      ap (λ (j : ℕ). get_or (set s (n % 4096 / 8) b) j 0) there ∙ get_or-set_same s (n % 4096 / 8) b 0 (omega (arith, len)) in
      let was : get_or s (m % 4096 / 8) 0 ≡ get_or s (n % 4096 / 8) 0 = ap (λ (j : ℕ). get_or s j 0) there in
      ap (λ (k : ℕ). nat_eq k 1) (ap (λ (k : ℕ). bit_at k (m % 8)) byte ∙ same (m % 8) (omega arith) (λ e. ne (omega (arith, sector, there, e))) ∙ sym (ap (λ (k : ℕ). bit_at k (m % 8)) was))
]

-- nothing is done yet
pub clears_none : {numbers : List ℕ} {k from : ℕ} {s : List ℕ} → ClearsListed numbers k from from s s
clears_none = record { clear = λ n w. absurd (none_listed w); others = λ n at. inr refl }

-- a number of one place more that isn't the one there
listed_before : {numbers : List ℕ} {from i m n : ℕ} → get_or numbers i 0 ≡ n → m ≢ n → IsNumberOf numbers from (i + 1) m → IsNumberOf numbers from i m
listed_before {numbers} {from} {i} is ne w =
    let other : w.place ≢ i = λ e. ne (sym w.is ∙ ap (λ (j : ℕ). get_or numbers j 0) e ∙ is) in
    record { place = w.place; from = w.from; before = omega (arith, w.before, other); is = w.is; some = w.some }

-- 0 is passed by
pub clears_zero : {numbers : List ℕ} {k from i : ℕ} {s t : List ℕ} → ClearsListed numbers k from i s t → get_or numbers i 0 ≡ 0 → ClearsListed numbers k from (i + 1) s t
clears_zero c none = record {
  clear = λ n w. c.clear n (listed_before none w.some w);
  others = λ n at. elim (c.others n at) [ inl w ↦ inl (listed_wider (omega arith) w) | inr same ↦ inr same ];
}

-- a number more
pub clears_one : {numbers : List ℕ} {k from i : ℕ} {s t : List ℕ} (n b : ℕ) → ClearsListed numbers k from i s t → from ≤ i → length t ≡ 512 → get_or numbers i 0 ≡ n → n ≢ 0 → n / 4096 ≡ k
    → nat_eq (bit_at b (n % 8)) 1 ≡ false → ((j : ℕ) → j < 8 → j ≢ n % 8 → bit_at b j ≡ bit_at (get_or t (n % 4096 / 8) 0) j)
    → ClearsListed numbers k from (i + 1) s (set t (n % 4096 / 8) b)
clears_one {numbers} {k} {from} {i} {s} {t} n b c low len is some at clear same =
    let other : (m : ℕ) → m / 4096 ≡ k → m ≢ n → bit (λ _. set t (n % 4096 / 8) b) 0 m ≡ bit (λ _. t) 0 m =
    λ m there ne. bit_set_other t n b m len same (there ∙ sym at) ne in
    record {
      clear = λ m w. elim (cases_eq m n) [
        | inl e ↦ subst (λ (q : ℕ). (q / 4096 ≡ k) × (bit (λ _. set t (n % 4096 / 8) b) 0 q ≡ false)) (sym e) (at, bit_set_same t n b len ∙ clear)
        | inr ne ↦ let was = c.clear m (listed_before is ne w) in (was.0, other m was.0 ne ∙ was.1)
      ];
      others = λ m there. elim (c.others m there) [
        | inl w ↦ inl (listed_wider (omega arith) w)
        | inr kept ↦ elim (cases_eq m n) [
          | inl e ↦ inl (record { place = i; from = low; before = omega arith; is = is ∙ sym e; some = λ z. some (sym e ∙ z) })
          | inr ne ↦ inr (other m there ne ∙ kept)
        ]
      ];
    }

-- ---- in the bitmap
fewer_ones : (b c : Bool) → (IsTrue b → IsTrue c) → one_if b ≤ one_if c
unfolding one_if
fewer_ones true c implies = rw (implies refl) omega arith
fewer_ones false c implies = omega arith

-- numbers that pass one test pass another
count_fewer : (f g : ℕ → Bool) (a n : ℕ) → ((s : ℕ) → a ≤ s → s < a + n → IsTrue (f s) → IsTrue (g s)) → count_by f (range_with_len a n) ≤ count_by g (range_with_len a n)
count_fewer f g a zero implies = omega arith
count_fewer f g a (suc n) implies =
    let rest = count_fewer f g (a + 1) n (λ s ge lt. implies s (omega (arith, ge)) (omega (arith, lt))) in
    omega (arith, count_cons f a n, count_cons g a n, fewer_ones (f a) (g a) (implies a (omega arith) (omega arith)), rest)

was_clear : (b : Bool) → IsTrue (not b) → b ≡ false
was_clear true e = absurd cc
was_clear false e = refl

-- where no more bits are set at least as many are free
free_at_least : (p : Geometry) (map : Bitmap) (old new : SectorMap) → IsGeometry p
    → ((n : ℕ) → n < bit_count p map → bit old (first_sector p map) n ≡ false → bit new (first_sector p map) n ≡ false) → free_numbers p map old ≤ free_numbers p map new
free_at_least p Inodes old new geometry clear =
    count_fewer (λ n. not (bit old p.inode_bitmap n)) (λ n. not (bit new p.inode_bitmap n)) 0 p.inodes
    (λ n ge lt free. ap not (clear n (inode_has_bit geometry n (omega (arith, lt))) (was_clear (bit old p.inode_bitmap n) free)))
free_at_least p Blocks old new geometry clear =
    count_fewer (λ n. not (bit old p.block_bitmap n)) (λ n. not (bit new p.block_bitmap n)) p.first_data (p.sectors - p.first_data)
    (λ n ge lt free. ap not (clear n (has_bit geometry n (omega (arith, ge, lt))) (was_clear (bit old p.block_bitmap n) free)))

-- nothing is given
pub gives_none : {p : Geometry} {map : Bitmap} {P : ℕ → Type 0} {image : SectorMap} → HasWholeTables p image → ((n : ℕ) → P n → ⊥) → GivesNumbers p map P image image
gives_none tables none = record {
  tables = tables;
  clear = λ n here. absurd (none n here);
  bits = λ n low. inr refl;
  others = λ s ban. refl;
  count = omega arith;
}

-- a bit is that of its sector
pub seen : (image : SectorMap) (start n : ℕ) (s : List ℕ) → s ≡ image (start + n / 4096) → bit (λ _. s) 0 n ≡ bit image start n
unfolding bit
seen image start n s is = ap (λ (t : List ℕ). nat_eq (bit_at (get_or t (n % 4096 / 8) 0) (n % 8)) 1) is

-- those of one sector
pub gives_listed : {p : Geometry} {map : Bitmap} {numbers : List ℕ} {k from end : ℕ} {s t : List ℕ} {old new : SectorMap} → IsGeometry p → HasWholeTables p old → IsMapSector p map (first_sector p map + k)
    → s ≡ old (first_sector p map + k) → IsSector t → Puts (first_sector p map + k) t old new → ClearsListed numbers k from end s t → GivesNumbers p map (IsNumberOf numbers from end) old new
gives_listed {p} {map} {numbers} {k} {from} {end} {s} {t} {old} {new} geometry tables within is whole put c =
    let start : ℕ = first_sector p map in
    let before : (n : ℕ) → n / 4096 ≡ k → bit (λ _. s) 0 n ≡ bit old start n = λ n e. seen old start n s (is ∙ ap (λ (j : ℕ). old (start + j)) (sym e)) in
    let after : (n : ℕ) → n / 4096 ≡ k → bit (λ _. t) 0 n ≡ bit new start n = λ n e. seen new start n t (sym put.here ∙ ap (λ (j : ℕ). new (start + j)) (sym e)) in
    let clear : (n : ℕ) → IsNumberOf numbers from end n → bit new start n ≡ false = λ n w. let z = c.clear n w in sym (after n z.0) ∙ z.1 in
    let bits : (n : ℕ) → IsNumberOf numbers from end n ⊎ (bit new start n ≡ bit old start n) =
    λ n. elim (cases_eq (n / 4096) k) [
      | inl e ↦ elim (c.others n e) [ inl w ↦ inl w | inr same ↦ inr (sym (after n e) ∙ same ∙ before n e) ]
      | inr ne ↦ inr (bit_kept old new start n (put.others (start + n / 4096) (λ e. ne (omega (arith, e)))))
    ] in
    record {
      tables = λ u past low. elim (cases_eq u (start + k)) [
        | inl e ↦ subst IsSector (sym (ap new e ∙ put.here)) whole
        | inr ne ↦ subst IsSector (sym (put.others u ne)) (tables u past low)
      ];
      clear = clear;
      bits = λ n low. bits n;
      others = λ u ban. put.others u (λ e. ban (subst (IsMapSector p map) (sym e) within));
      count = free_at_least p map old new geometry (λ n low was. elim (bits n) [ inl w ↦ clear n w | inr same ↦ same ∙ was ]);
    }

-- those up to a place, and then the next
pub gives_joined : {p : Geometry} {map : Bitmap} {numbers : List ℕ} {from next end : ℕ} {old mid new : SectorMap} → ((n : ℕ) → IsNumberOf numbers from next n → n < bit_count p map) → from ≤ next → next ≤ end
    → GivesNumbers p map (IsNumberOf numbers from next) old mid → GivesNumbers p map (IsNumberOf numbers next end) mid new → GivesNumbers p map (IsNumberOf numbers from end) old new
gives_joined {p} {map} {numbers} {from} {next} {end} few low high a b = record {
  tables = b.tables;
  clear = λ n w. elim (cases_lt w.place next) [
    | inl lt ↦
        let first : IsNumberOf numbers from next n = record { place = w.place; from = w.from; before = lt; is = w.is; some = w.some } in
        elim (b.bits n (few n first)) [ inl then ↦ b.clear n then | inr same ↦ same ∙ a.clear n first ]
    | inr ge ↦ b.clear n (record { place = w.place; from = ge; before = w.before; is = w.is; some = w.some })
  ];
  bits = λ n lt. elim (b.bits n lt) [
    | inl w ↦ inl (listed_earlier low w)
    | inr same ↦ elim (a.bits n lt) [ inl w ↦ inl (listed_wider high w) | inr kept ↦ inr (same ∙ kept) ]
  ];
  others = λ s ban. b.others s ban ∙ a.others s ban;
  count = let x = a.count in let y = b.count in omega (arith, x, y);
}

-- ---- what it leaves
-- the bits of other numbers, in both bitmaps
others_given : {p : Geometry} (map : Bitmap) {P : ℕ → Type 0} {old new : SectorMap} → GivesNumbers p map P old new → (other : Bitmap) (m : ℕ) → m < bit_count p other
    → ((other ≡ map) → P m → ⊥) → bit new (first_sector p other) m ≡ bit old (first_sector p other) m
others_given Inodes g Inodes m low ban = elim (g.bits m low) [ inl w ↦ absurd (ban refl w) | inr same ↦ same ]
others_given {p} Inodes {old = old} {new} g Blocks m low ban = bit_kept old new p.block_bitmap m (g.others (p.block_bitmap + m / 4096) (λ i. let lt = i.1 in omega (arith, lt)))
others_given {p} Blocks {old = old} {new} g Inodes m low ban = inode_bit_kept p old new m low (λ t i. g.others t (λ b. let lt = i.1 in let ge = b.0 in omega (arith, lt, ge)))
others_given Blocks g Blocks m low ban = elim (g.bits m low) [ inl w ↦ absurd (ban refl w) | inr same ↦ same ]

pub bitmaps_given : {p : Geometry} {map : Bitmap} {P : ℕ → Type 0} {old new : TxnState} → HasBitmaps p old → SameStore old new → ((n : ℕ) → P n → IsNumber p map n)
    → GivesNumbers p map P old.sectors new.sectors → HasBitmaps p new
bitmaps_given {p} {map} {P} {old} {new} has store each g = record {
  geometry = has.geometry;
  disk = omega (arith, has.disk, store.reads.narrowed.size);
  header = omega (arith, has.header, ap log_end store.header);
  tables = g.tables;
  rest = λ other m low ban.
      others_given map g other m low (λ same here. ban (subst (λ (q : Bitmap). IsNumber p q m) (sym same) (each m here))) ∙ has.rest other m low ban;
}

-- the sectors that were put
pub listed_puts : {p : Geometry} {map : Bitmap} {numbers : List ℕ} {from next end : ℕ} {old mid new : TxnState} → from ≤ next → next ≤ end
    → PutsOnly (IsSectorOf p map (IsNumberOf numbers from next)) (bitmaps p) 0 old mid → PutsOnly (IsSectorOf p map (IsNumberOf numbers next end)) (bitmaps p) 0 mid new
    → PutsOnly (IsSectorOf p map (IsNumberOf numbers from end)) (bitmaps p) 0 old new
listed_puts {p} {map} {numbers} {from} {next} {end} {old} {mid} {new} low high a b =
    let first : PutsOnly (IsSectorOf p map (IsNumberOf numbers from end)) (bitmaps p) 0 old mid = changes_weaker (λ s w. record { number = w.number; has = listed_wider high w.has; is = w.is }) (omega arith) a in
    let then : PutsOnly (IsSectorOf p map (IsNumberOf numbers from end)) (bitmaps p) 0 mid new = changes_weaker (λ s w. record { number = w.number; has = listed_earlier low w.has; is = w.is }) (omega arith) b in
    changes_joined first then

-- a sector is one of the bitmap where one of its bits is a number's
pub in_map : (p : Geometry) (map : Bitmap) (n : ℕ) → IsGeometry p → n < limit p map → IsMapSector p map (first_sector p map + n / 4096)
in_map p Inodes n geometry lt = let few = number_has_bit p Inodes n geometry lt in (omega arith, omega (arith, few))
in_map p Blocks n geometry lt = let few = number_has_bit p Blocks n geometry lt in (omega arith, omega (arith, few))

-- and stands on the disk
pub in_disk : {p : Geometry} {txn : TxnState} (map : Bitmap) (n : ℕ) → HasBitmaps p txn → n < limit p map → sector_of p map n < txn.disk.size
in_disk {p} map n has lt =
    let below = (sector_below p map n has.geometry lt).1 in
    omega (arith, below, has.disk, has.geometry.slots, has.geometry.least_inodes, has.geometry.data_sectors)

-- one put of the sector of a listed number
pub listed_put : {p : Geometry} {map : Bitmap} {numbers : List ℕ} {first end : ℕ} {content : List ℕ} {old new : TxnState} (n : ℕ) → IsGeometry p → n < limit p map → IsNumberOf numbers first end n
    → IsPut (first_sector p map + n / 4096) content old new → PutsOnly (IsSectorOf p map (IsNumberOf numbers first end)) (bitmaps p) 0 old new
listed_put {p} {map} {content = content} {old} {new} n geometry lt listed put =
    changes_weaker (λ t e. record { number = n; has = listed; is = e }) (omega arith) (marked_puts p map n content old new geometry lt put)
