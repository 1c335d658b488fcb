-- Bitmaps and inode table of a new disk: bit by bit, and then as a whole.
use Rattle.std.proofs.Common.{◌≡◌, ◌≢◌, ℕ, ◌+◌, ◌-◌, ◌*◌, ◌/◌, ◌%◌, ◌^◌, ◌<◌, ◌≤◌, Bool, true, false, nat_eq, nat_le, ◌||◌, List, [], length, take, get_or, set, refl, sym, ap, subst, ◌∙◌, arith, inl, inr, ◌⊎◌, ◌↔◌, IsTrue, Some, w8, bit_or}
use Rattle.std.specs.Int.{bit_at}
use Rattle.std.proofs.lemmas.Bool.{cases_eq, cases_lt}
use Rattle.std.proofs.lemmas.Bool.Decides.{nat_tests}
use Rattle.std.proofs.lemmas.List.{drop-replicate, take-replicate, get_or-set_same, get_or-set_other, length-set}
use Rattle.std.proofs.lemmas.Nat.Bits.{bit_at_set_same, bit_at_set_other}
use Rattle.fs_layout.specs.declared.geometry.Geometry.{Geometry}
use Rattle.fs_layout.specs.Bytes.{SectorMap, IsBytes, IsSector, window, zeros, le16, le32, le64, le32s}
use Rattle.fs_layout.specs.Commit.{commit_bytes}
use Rattle.fs_layout.specs.Inode.{IsInode, free_inode, inode_bytes, inode_fits}
use Rattle.fs_layout.specs.Images.{bit, stored}
use Rattle.fs_layout.specs.Geometry.{IsGeometry, new_header, super_for, the_geometry}
use Rattle.fs_layout.specs.Superblock.{super_bytes}
use Rattle.fs_layout.proofs.Places.{after_map, before_data, is_a_geometry}
use Rattle.fs_layout.proofs.Sectors.{IsSector-splice, IsBytes-inode_bytes}
use Rattle.fs_layout.proofs.SplicedBytes.{IsSector-zeros}
use Rattle.fs_layout.proofs.Splices.{window_same, window_other}
use Rattle.fs_layout.proofs.Writes.{length-inode_bytes, length-zeros}
use Rattle.fs_model.specs.Limits.{root}
use Rattle.fs_model.specs.NewDisk.{root_inode, IsNewImage}
use Rattle.fs_images.specs.NewTables.{is_outside, IsBitmap, IsNewTable, root_table}

-- ---- numbers outside a range
pub low_is_outside : (low high n : ℕ) → n < low → is_outside low high n ≡ true
low_is_outside low high n lt = grind (arith, nat_tests)

pub high_is_outside : (low high n : ℕ) → high ≤ n → is_outside low high n ≡ true
high_is_outside low high n le = grind (arith, nat_tests)

pub is_inside : (low high n : ℕ) → low ≤ n → n < high → is_outside low high n ≡ false
is_inside low high n ge lt = grind (arith, nat_tests)

pub outside_cases : (low high n : ℕ) → IsTrue (is_outside low high n) ↔ ((n < low) ⊎ (high ≤ n))
outside_cases low high n = (where_set, is_set)
  where
    where_set : IsTrue (is_outside low high n) → (n < low) ⊎ (high ≤ n)
    where_set t = elim (cases_lt n low) [
      | inl below ↦ inl below
      | inr ge ↦ elim (cases_lt n high) [
        | inl lt ↦ absurd (let f : is_outside low high n ≡ false = is_inside low high n ge lt in cc)
        | inr past ↦ inr past
      ]
    ]

    is_set : (n < low) ⊎ (high ≤ n) → IsTrue (is_outside low high n)
    is_set (inl below) = low_is_outside low high n below
    is_set (inr past) = high_is_outside low high n past

-- ---- the bits of a byte
-- the bits below k are those that f says, and the others are clear
pub record IsFilled (f : ℕ → Bool) (k byte : ℕ) : Type 0 where
  pub filled : (j : ℕ) → j < k → nat_eq (bit_at byte j) 1 ≡ f j
  pub clear : (j : ℕ) → k ≤ j → bit_at byte j ≡ 0

-- one bit more, which is set
pub set_next : (f : ℕ → Bool) (k byte : ℕ) → k < 8 → f k ≡ true → IsFilled f k byte → IsFilled f (k + 1) (bit_or byte (1 * 2 ^ k % 2 ^ 8))
set_next f k byte lt is so_far = record {
  filled = λ j below. elim (cases_eq j k) [
    | inl here ↦
        ap (λ (i : ℕ). nat_eq (bit_at (bit_or byte (1 * 2 ^ k % 2 ^ 8)) i) 1) here ∙ ap (λ (b : ℕ). nat_eq b 1) (bit_at_set_same w8 byte k lt)
        ∙ sym is ∙ ap f (sym here)
    | inr there ↦ ap (λ (b : ℕ). nat_eq b 1) (bit_at_set_other w8 byte k lt j there) ∙ so_far.filled j (omega (arith, below, there))
  ];
  clear = λ j above. bit_at_set_other w8 byte k lt j (λ (e : j ≡ k). omega (arith, above, e)) ∙ so_far.clear j (omega (arith, above));
}

-- one bit more, which is clear
pub clear_next : (f : ℕ → Bool) (k byte : ℕ) → f k ≡ false → IsFilled f k byte → IsFilled f (k + 1) byte
clear_next f k byte is so_far = record {
  filled = λ j below. elim (cases_eq j k) [
    | inl here ↦ ap (λ (b : ℕ). nat_eq b 1) (so_far.clear j (omega (arith, here))) ∙ sym is ∙ ap f (sym here)
    | inr there ↦ so_far.filled j (omega (arith, below, there))
  ];
  clear = λ j above. so_far.clear j (omega (arith, above));
}

-- ---- the bytes of a sector
-- the bytes below i have the bits that f says
pub record IsFilledBelow (f : ℕ → Bool) (i : ℕ) (content : List ℕ) : Type 0 where
  pub whole : IsSector content
  pub filled : (j k : ℕ) → j < i → k < 8 → nat_eq (bit_at (get_or content j 0) k) 1 ≡ f (8 * j + k)

pub no_byte_filled : (f : ℕ → Bool) → IsFilledBelow f 0 (zeros 512)
no_byte_filled f = record { whole = IsSector-zeros; filled = λ j k lt small. absurd (omega (arith, lt)) }

set_bytes : (content : List ℕ) (i byte : ℕ) → i < length content → byte < 256 → IsBytes content → IsBytes (set content i byte)
set_bytes content i byte lt small all j = elim (cases_eq j i) [
  | inl here ↦ let e = ap (λ (m : ℕ). get_or (set content i byte) m 0) here ∙ get_or-set_same content i byte 0 lt in omega (arith, e, small)
  | inr there ↦ let e = get_or-set_other content i j byte 0 there in let b = all j in omega (arith, e, b)
]

-- one byte more
pub byte_next : (f : ℕ → Bool) (i byte : ℕ) (content : List ℕ) → i < 512 → byte < 256 → ((k : ℕ) → k < 8 → nat_eq (bit_at byte k) 1 ≡ f (8 * i + k))
    → IsFilledBelow f i content → IsFilledBelow f (i + 1) (set content i byte)
byte_next f i byte content lt small is so_far =
    let inside : i < length content = omega (arith, lt, so_far.whole.len) in
    record {
      whole = record { len = length-set content i byte ∙ so_far.whole.len; bytes = set_bytes content i byte inside small so_far.whole.bytes };
      filled = λ j k below few. elim (cases_eq j i) [
        | inl here ↦
            ap (λ (m : ℕ). nat_eq (bit_at (get_or (set content i byte) m 0) k) 1) here
            ∙ ap (λ (b : ℕ). nat_eq (bit_at b k) 1) (get_or-set_same content i byte 0 inside)
            ∙ is k few ∙ ap (λ (m : ℕ). f (8 * m + k)) (sym here)
        | inr there ↦
            ap (λ (b : ℕ). nat_eq (bit_at b k) 1) (get_or-set_other content i j byte 0 there) ∙ so_far.filled j k (omega (arith, below, there)) few
      ];
    }

-- all bytes
pub is_bitmap : (first low high i : ℕ) (content : List ℕ) → 512 ≤ i → IsFilledBelow (λ n. is_outside low high (first + n)) i content
    → IsBitmap first low high content
unfolding bit
is_bitmap first low high i content le all = record {
  whole = all.whole;
  bits = λ k lt.
      ap (λ (m : ℕ). nat_eq (bit_at (get_or content (m / 8) 0) (k % 8)) 1) (let e : k % 4096 ≡ k = omega arith in e)
      ∙ all.filled (k / 8) (k % 8) (omega (arith, lt, le)) (omega arith)
      ∙ ap (λ (m : ℕ). is_outside low high (first + m)) (let e : 8 * (k / 8) + k % 8 ≡ k = omega arith in e);
}

-- ---- the sector with the root
pub root_is_inode : IsInode root_inode
unfolding inode_fits
root_is_inode = record { numbers = refl; free = λ e. absurd cc }

length-root : length (inode_bytes root_inode) ≡ 128
length-root = length-inode_bytes root_inode refl refl

root_is_there : window root_table 128 128 ≡ inode_bytes root_inode
unfolding root_table
root_is_there = window_same (zeros 512) (inode_bytes root_inode) 128 128 length-root (omega (arith, length-zeros 512))

free_bytes : inode_bytes free_inode ≡ zeros 128
unfolding le16 le32 le64 le32s zeros
free_bytes = refl

free_in_zeros : (place : ℕ) → place + 128 ≤ 512 → window (zeros 512) place 128 ≡ inode_bytes free_inode
unfolding zeros
free_in_zeros place room = ap (take 128) (drop-replicate place 512 0) ∙ take-replicate 128 (512 - place) 0 (omega arith) ∙ sym free_bytes

others_are_free : (k : ℕ) → k < 4 → k ≢ 1 → window root_table (128 * k) 128 ≡ inode_bytes free_inode
unfolding root_table
others_are_free k lt ne =
    window_other (zeros 512) (inode_bytes root_inode) 128 (128 * k) 128 128 length-root (omega (arith, length-zeros 512)) (omega (arith, lt, length-zeros 512)) (beside k lt ne)
    ∙ free_in_zeros (128 * k) (omega (arith, lt))
  where
    beside : (k : ℕ) → k < 4 → k ≢ 1 → (128 * k + 128 ≤ 128) ⊎ (128 + 128 ≤ 128 * k)
    beside k lt ne = elim (cases_lt k 1) [ inl low ↦ inl (omega (arith, low)) | inr ge ↦ inr (omega (arith, ge, ne)) ]

root_table_whole : IsSector root_table
unfolding root_table
root_table_whole = IsSector-splice (zeros 512) (inode_bytes root_inode) 128 IsSector-zeros (IsBytes-inode_bytes root_inode) (omega (arith, length-root))

-- ---- the tables as a whole
table_whole : (p : Geometry) (s : ℕ) (content : List ℕ) → p.inode_bitmap ≤ s → IsNewTable p s content → IsSector content
table_whole p s content ge is = elim (cases_lt s p.block_bitmap) [
  | inl first ↦ (is.inodes ge first).whole
  | inr behind ↦ elim (cases_lt s p.table) [
    | inl low ↦ (is.sectors behind low).whole
    | inr past ↦ elim (cases_eq s p.table) [
      | inl e ↦ subst IsSector (sym (is.root e)) root_table_whole
      | inr other ↦ subst IsSector (sym (is.others (omega (arith, past, other)))) IsSector-zeros
    ]
  ]
]

-- a bit depends on its sector alone
bit_of_sector : (image : SectorMap) (start n : ℕ) → bit image start n ≡ bit (λ s. image (start + n / 4096)) 0 (n % 4096)
unfolding bit
bit_of_sector image start n =
    let a : n % 4096 ≡ n % 4096 % 4096 = omega arith in
    let b : n % 8 ≡ n % 4096 % 8 = omega arith in
    ap (λ (m : ℕ). nat_eq (bit_at (get_or (image (start + n / 4096)) (m / 8) 0) (n % 8)) 1) a
    ∙ ap (λ (m : ℕ). nat_eq (bit_at (get_or (image (start + n / 4096)) (n % 4096 % 4096 / 8) 0) m) 1) b

-- inode 0 isn't used, and inode 1 is the root
root_and_none : (most n : ℕ) → is_outside 2 most n ≡ (nat_eq n 0 || nat_le most n || nat_eq n root)
root_and_none most n = grind (arith, nat_tests)

pub new_image : (p : Geometry) (image : SectorMap) → the_geometry p.version p.sectors p.inodes ≡ Some p → image 0 ≡ super_bytes (super_for p)
    → image 1 ≡ commit_bytes [] → ((s : ℕ) → p.inode_bitmap ≤ s → s < p.first_data → IsNewTable p s (image s)) → IsNewImage p image
unfolding stored
new_image p image has_geometry super commit tables = record {
  has_geometry = has_geometry;
  super = super;
  commit = commit;
  tables = λ s ge lt. table_whole p s (image s) ge (tables s ge lt);
  inode_bits = λ n lt.
      let t = p.inode_bitmap + n / 4096 in
      let below : t < p.block_bitmap = omega (arith, lt) in
      let map : IsBitmap (4096 * (t - p.inode_bitmap)) 2 p.inodes (image t) =
      (tables t (omega arith) (omega (arith, below, order.2, high))).inodes (omega arith) below in
      let e : 4096 * (t - p.inode_bitmap) + n % 4096 ≡ n = omega arith in
      bit_of_sector image p.inode_bitmap n ∙ map.bits (n % 4096) (omega arith) ∙ ap (is_outside 2 p.inodes) e ∙ root_and_none p.inodes n;
  block_bits = λ s lt.
      let t = p.block_bitmap + s / 4096 in
      let below : t < p.table = omega (arith, lt) in
      let map : IsBitmap (4096 * (t - p.block_bitmap)) p.first_data p.sectors (image t) =
      (tables t (omega (arith, order.1)) (omega (arith, below, high))).sectors (omega arith) below in
      let e : 4096 * (t - p.block_bitmap) + s % 4096 ≡ s = omega arith in
      let is : bit image p.block_bitmap s ≡ is_outside p.first_data p.sectors s =
      bit_of_sector image p.block_bitmap s ∙ map.bits (s % 4096) (omega arith) ∙ ap (is_outside p.first_data p.sectors) e in
      let cases = outside_cases p.first_data p.sectors s in
      (λ set. cases.0 (sym is ∙ set), λ out. is ∙ cases.1 out);
  root_is =
      let e : p.table + 1 / 4 ≡ p.table = omega arith in
      ap (λ (s : ℕ). window (image s) 128 128) e ∙ ap (λ (x : List ℕ). window x 128 128) ((tables p.table (omega (arith, order.1, order.2)) (omega (arith, geometry.slots, geometry.least_inodes))).root refl) ∙ root_is_there;
  free = λ n lt ne.
      let inside : p.table + n / 4 < p.first_data = omega (arith, geometry.slots, lt) in
      let there = tables (p.table + n / 4) (omega (arith, order.1, order.2)) inside in
      elim (cases_lt n 4) [
        | inl few ↦
            let e : p.table + n / 4 ≡ p.table = omega arith in
            let k : n % 4 ≡ n = omega arith in
            ap (λ (x : List ℕ). window x (128 * (n % 4)) 128) (there.root e) ∙ ap (λ (m : ℕ). window root_table (128 * m) 128) k ∙ others_are_free n few ne
        | inr many ↦
            ap (λ (x : List ℕ). window x (128 * (n % 4)) 128) (there.others (omega (arith, many))) ∙ free_in_zeros (128 * (n % 4)) (omega arith)
      ];
}
  where
    geometry : IsGeometry p
    geometry = is_a_geometry p.version (new_header p.version p.sectors p.inodes) p.sectors p.inodes has_geometry

    order : (128 ≤ p.inode_bitmap) × (p.inode_bitmap < p.block_bitmap) × (p.block_bitmap < p.table)
    order = after_map geometry

    high : p.table ≤ p.first_data
    high = before_data geometry
