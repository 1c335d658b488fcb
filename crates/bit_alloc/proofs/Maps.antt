-- What a bitmap's sectors say of its bits, and its bits of its numbers.
use Rattle.std.proofs.Common.{◌≡◌, ℕ, ◌+◌, ◌-◌, ◌*◌, ◌/◌, ◌%◌, ◌<◌, ◌≤◌, Bool, false, not, nat_eq, List, get_or, refl, sym, ap, ◌∙◌, arith, inl, inr, IsTrue}
use Rattle.std.specs.Prelude.{count_by}
use Rattle.std.specs.List.{range_with_len}
use Rattle.std.specs.Int.{bit_at}
use Rattle.std.proofs.lemmas.Bool.{cases_lt}
use Rattle.fs_layout.specs.declared.geometry.Geometry.{Geometry}
use Rattle.fs_layout.specs.declared.header.TheConstants.{MAX_HEADER}
use Rattle.fs_layout.specs.Bytes.{SectorMap}
use Rattle.fs_layout.specs.Header.{max_delta}
use Rattle.fs_layout.specs.Geometry.{IsGeometry}
use Rattle.fs_layout.specs.Images.{bit, inode_map_bits, map_bits}
use Rattle.fs_layout.proofs.Places.{after_map}
use Rattle.fs_layout.proofs.Bits.{not_both}
use Rattle.bit_alloc.specs.declared.bitmap.Bitmap.{Bitmap}
use Rattle.bit_alloc.specs.declared.bitmap.Bitmap.TheVariants.{Inodes, Blocks}
use Rattle.bit_alloc.specs.Bits.{clear_below}
use Rattle.bit_alloc.specs.Bitmaps.{first_sector, bit_count, least, limit, IsFreeNumber, free_numbers, HasRestSet}
use Rattle.fs_layout.proofs.Counting.{count_same, count_split, count_moved, count_none, count_at_most}

-- ---- from a sector to the bitmap
-- a bit of the bitmap is one of its sector
pub bit_in_sector : (image : SectorMap) (start n : ℕ) → bit image start n ≡ bit (λ _. image (start + n / 4096)) 0 (n % 4096)
unfolding bit
bit_in_sector image start n =
    let s : List ℕ = image (start + n / 4096) in
    let byte : n % 4096 / 8 ≡ n % 4096 % 4096 / 8 = omega arith in
    let place : n % 8 ≡ n % 4096 % 8 = omega arith in
    ap (λ (m : ℕ). nat_eq (bit_at (get_or s m 0) (n % 8)) 1) byte ∙ ap (λ (m : ℕ). nat_eq (bit_at (get_or s (n % 4096 % 4096 / 8) 0) m) 1) place

-- and one of its byte
pub bit_in_byte : (image : SectorMap) (start n : ℕ) (s : List ℕ) → s ≡ image (start + n / 4096) → nat_eq (bit_at (get_or s (n % 4096 / 8) 0) (n % 8)) 1 ≡ bit image start n
unfolding bit
bit_in_byte image start n s is = ap (λ (t : List ℕ). nat_eq (bit_at (get_or t (n % 4096 / 8) 0) (n % 8)) 1) is

-- bit i of sector k is bit 4096 k + i
pub bit_of_sector : (image : SectorMap) (start k i : ℕ) (s : List ℕ) → s ≡ image (start + k) → i < 4096 → bit (λ _. s) 0 i ≡ bit image start (4096 * k + i)
bit_of_sector image start k i s is few =
    let sector : k ≡ (4096 * k + i) / 4096 = omega arith in
    let place : i ≡ (4096 * k + i) % 4096 = omega arith in
    ap (λ (t : List ℕ). bit (λ _. t) 0 i) (is ∙ ap (λ (m : ℕ). image (start + m)) sector)
    ∙ ap (bit (λ _. image (start + (4096 * k + i) / 4096)) 0) place ∙ sym (bit_in_sector image start (4096 * k + i))

-- the clear bits of one sector more
pub sector_counted : (image : SectorMap) (start k m : ℕ) (s : List ℕ) → s ≡ image (start + k) → m ≤ 4096
    → clear_below image start (4096 * k + m) ≡ clear_below image start (4096 * k) + clear_below (λ _. s) 0 m
unfolding clear_below
sector_counted image start k m s is few =
    let f : ℕ → Bool = λ i. not (bit image start i) in
    let here : count_by (λ i. f (4096 * k + i)) (range_with_len 0 m) ≡ count_by (λ i. not (bit (λ _. s) 0 i)) (range_with_len 0 m) =
    count_same _ _ 0 m (λ i from to. ap not (sym (bit_of_sector image start k i s is (omega (arith, to, few))))) in
    let at : 0 + 4096 * k ≡ 4096 * k + 0 = omega arith in
    let moved : count_by f (range_with_len (0 + 4096 * k) m) ≡ count_by f (range_with_len (4096 * k + 0) m) = ap (λ (q : ℕ). count_by f (range_with_len q m)) at in
    omega (arith, count_split f 0 (4096 * k) m, moved, count_moved f (4096 * k) 0 m, here)

-- at first none
pub none_counted : (image : SectorMap) (start : ℕ) → clear_below image start 0 ≡ 0
unfolding clear_below
none_counted image start = refl

-- no more than there are
pub counted_at_most : (image : SectorMap) (start n : ℕ) → clear_below image start n ≤ n
unfolding clear_below
counted_at_most image start n = count_at_most _ 0 n

-- the clear bits up to some number are among those up to a higher one
pub fewer_counted : (image : SectorMap) (start m n : ℕ) → m ≤ n → clear_below image start m ≤ clear_below image start n
unfolding clear_below
fewer_counted image start m n le =
    let f : ℕ → Bool = λ i. not (bit image start i) in
    let length : m + (n - m) ≡ n = omega arith in
    let whole : count_by f (range_with_len 0 (m + (n - m))) ≡ count_by f (range_with_len 0 n) = ap (λ (q : ℕ). count_by f (range_with_len 0 q)) length in
    omega (arith, count_split f 0 m (n - m), whole)

-- where all are set, none
pub all_set : (image : SectorMap) (start n : ℕ) → ((i : ℕ) → i < n → IsTrue (bit image start i)) → clear_below image start n ≡ 0
unfolding clear_below
all_set image start n set = count_none _ 0 n (λ i from to. ap not (set i (omega (arith, to))))

-- ---- from bits to numbers
-- each number has a bit
pub number_has_bit : (p : Geometry) (map : Bitmap) (n : ℕ) → IsGeometry p → n < limit p map → n < bit_count p map
number_has_bit p Inodes n geometry lt = let bits = geometry.inode_bits in omega (arith, bits, lt)
number_has_bit p Blocks n geometry lt = let bits = geometry.bits in omega (arith, bits, lt)

-- and there are not too many for a number of 32 bits
pub few_bits : (p : Geometry) (map : Bitmap) → IsGeometry p → bit_count p map ≤ 4096 * max_delta MAX_HEADER
few_bits p Inodes geometry = let room = geometry.room in let most = geometry.header in let after = after_map geometry in omega (arith, room, most, after)
few_bits p Blocks geometry = let room = geometry.room in let most = geometry.header in let after = after_map geometry in omega (arith, room, most, after)

-- nor are those up to one of its sectors, with those of the sector
pub few_counted : (p : Geometry) (map : Bitmap) (image : SectorMap) (sector : List ℕ) (free more : ℕ) {k end : ℕ} → IsGeometry p
    → free ≤ clear_below image (first_sector p map) (4096 * k) → more ≤ clear_below (λ _. sector) 0 4096 → k < end → 4096 * end ≤ bit_count p map
    → free + more ≤ 4096 * max_delta MAX_HEADER
few_counted p map image sector free more {k} geometry so_far here before within =
    let most = counted_at_most image (first_sector p map) (4096 * k) in
    let each = counted_at_most (λ _. sector) 0 4096 in
    let few = few_bits p map geometry in
    omega (arith, so_far, here, before, within, most, each, few)

-- a clear bit is that of a free number
pub clear_is_free : (p : Geometry) (map : Bitmap) (image : SectorMap) (n : ℕ) → HasRestSet p image → n < bit_count p map → bit image (first_sector p map) n ≡ false
    → IsFreeNumber p map image n
clear_is_free p map image n rest low clear =
    let some : (least p map ≤ n) × (n < limit p map) = elim (cases_lt n (least p map)) [
      | inl before ↦ absurd (not_both (rest map n low (λ is. omega (arith, before, is.0))) clear)
      | inr from ↦ elim (cases_lt n (limit p map)) [
        | inl below ↦ (from, below)
        | inr past ↦ absurd (not_both (rest map n low (λ is. omega (arith, past, is.1))) clear)
      ]
    ] in
    (some.0, some.1, clear)

-- so is one that is clear in a sector of the bitmap
pub found_free : (p : Geometry) (map : Bitmap) (image : SectorMap) (k i sectors : ℕ) (s : List ℕ) → HasRestSet p image → s ≡ image (first_sector p map + k) → 4096 * sectors ≡ bit_count p map
    → k < sectors → i < 4096 → bit (λ _. s) 0 i ≡ false → IsFreeNumber p map image (4096 * k + i)
found_free p map image k i sectors s rest is all low few clear =
    clear_is_free p map image (4096 * k + i) rest (omega arith) (sym (bit_of_sector image (first_sector p map) k i s is few) ∙ clear)

-- where all bits outside are set, the clear ones are those within
counted_within : (image : SectorMap) (start a m n : ℕ) → a + m ≤ n → ((i : ℕ) → i < n → ((a ≤ i) × (i < a + m) → ⊥) → IsTrue (bit image start i))
    → clear_below image start n ≡ count_by (λ i. not (bit image start i)) (range_with_len a m)
unfolding clear_below
counted_within image start a m n le outside =
    let f : ℕ → Bool = λ i. not (bit image start i) in
    let r : ℕ = n - (a + m) in
    let length : n ≡ a + (m + r) = omega arith in
    let at : 0 + a ≡ a = omega arith in
    let whole : count_by f (range_with_len 0 n) ≡ count_by f (range_with_len 0 (a + (m + r))) = ap (λ (q : ℕ). count_by f (range_with_len 0 q)) length in
    let moved : count_by f (range_with_len (0 + a) (m + r)) ≡ count_by f (range_with_len a (m + r)) = ap (λ (q : ℕ). count_by f (range_with_len q (m + r))) at in
    let below : count_by f (range_with_len 0 a) ≡ 0 = count_none f 0 a (λ i from to. ap not (outside i (omega (arith, to)) (λ is. let b = is.0 in omega (arith, b, to)))) in
    let past : count_by f (range_with_len (a + m) r) ≡ 0 = count_none f (a + m) r (λ i from to. ap not (outside i (omega (arith, to)) (λ is. let b = is.1 in omega (arith, b, from)))) in
    omega (arith, whole, count_split f 0 a (m + r), moved, below, count_split f a m r, past)

-- the clear bits are the free numbers
pub numbers_counted : (p : Geometry) (map : Bitmap) (image : SectorMap) → IsGeometry p → HasRestSet p image
    → clear_below image (first_sector p map) (bit_count p map) ≡ free_numbers p map image
numbers_counted p Inodes image geometry rest =
    let bits = geometry.inode_bits in
    counted_within image p.inode_bitmap 0 p.inodes (inode_map_bits p) (omega (arith, bits)) (λ i low ban. rest Inodes i low (λ is. let b = is.1 in ban (omega arith, omega (arith, b))))
numbers_counted p Blocks image geometry rest =
    let bits = geometry.bits in
    let some = geometry.data_sectors in
    counted_within image p.block_bitmap p.first_data (p.sectors - p.first_data) (map_bits p) (omega (arith, bits, some))
    (λ i low ban. rest Blocks i low (λ is. let b = is.1 in ban (is.0, omega (arith, b, some))))

-- so they are not too many either
pub few_free : (p : Geometry) (map : Bitmap) (image : SectorMap) → IsGeometry p → HasRestSet p image → free_numbers p map image ≤ 4096 * max_delta MAX_HEADER
few_free p map image geometry rest =
    omega (arith, numbers_counted p map image geometry rest, counted_at_most image (first_sector p map) (bit_count p map), few_bits p map geometry)
