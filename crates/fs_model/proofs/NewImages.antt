-- Each disk that has a geometry has an image that holds an empty root, and nothing else.
use Rattle.std.specs.Prelude.{◌≡◌, ◌≢◌, ℕ, zero, suc, ◌+◌, ◌-◌, ◌*◌, ◌/◌, ◌%◌, ◌<◌, ◌≤◌, nat_eq, nat_lt, nat_le, Bool, true, false, cond, ◌||◌, List, [], ◌++◌, get_or, map, Some, IsTrue, ◌⊎◌, ◌↔◌}
use Rattle.std.proofs.Common.{refl, sym, ap, arith, ◌∙◌, subst, inl, inr}
use Rattle.std.specs.Int.{bit_at}
use Rattle.std.specs.List.{range_with_len}
use Rattle.std.proofs.lemmas.Bool.{cases_eq, cases_lt, eq-eqb, ne_eqb, lt-ltb, le-ltb, ltb-true, le-leb, leb-true}
use Rattle.std.proofs.lemmas.Nat.Bits.{bit_at_lowest, bit_at-suc}
use Rattle.std.proofs.lemmas.List.{get_or_past}
use Rattle.std.proofs.lemmas.List.FromFn.{get_or-map-range_with_len, length-map-range_with_len}
use Rattle.fs_layout.specs.declared.inode.TheConstants.{INODE_SIZE}
use Rattle.fs_layout.specs.declared.geometry.Geometry.{Geometry}
use Rattle.fs_layout.specs.Bytes.{SectorMap, IsBytes, IsSector, window, zeros, le16, le32, le64, le32s}
use Rattle.fs_layout.specs.Superblock.{super_bytes}
use Rattle.fs_layout.specs.Commit.{commit_bytes}
use Rattle.fs_layout.specs.Inode.{inode_bytes, free_inode}
use Rattle.fs_layout.specs.declared.version.Version.TheVariants.{Two}
use Rattle.fs_layout.specs.Geometry.{IsGeometry, allows_header, new_header, geometry_in, the_geometry, laid_out, super_for}
use Rattle.fs_layout.specs.Images.{HasWholeTables, inode_map_bits, map_bits, bit, stored}
use Rattle.fs_layout.proofs.Places.{after_map, is_a_geometry}
use Rattle.fs_layout.proofs.Sectors.{IsBytes-append, IsBytes-zeros, IsBytes-inode_bytes}
use Rattle.fs_layout.proofs.SplicedBytes.{IsSector-zeros}
use Rattle.fs_model.specs.Limits.{root}
use Rattle.fs_model.specs.Trees.{Tree, Room}
use Rattle.fs_model.specs.Stands.{room_of, Stands}
use Rattle.fs_model.specs.NewDisk.{empty_tree, root_inode, IsNewImage}
use Rattle.fs_model.proofs.Counting.{or_true}
use Rattle.fs_model.proofs.NewDiskStands.{new_disk_stands}

-- ---- bits as bytes

one_if : Bool → ℕ
one_if b = cond b 1 0

small : (b : Bool) → one_if b ≤ 1
unfolding one_if
small true = omega arith
small false = omega arith

as_bit : (b : Bool) → nat_eq (one_if b) 1 ≡ b
unfolding one_if
as_bit true = refl
as_bit false = refl

-- the number whose n lowest bits are these
abbrev number_of : ℕ → (ℕ → Bool) → ℕ
number_of zero f = 0
number_of (suc n) f = one_if (f 0) + 2 * number_of n (λ i. f (suc i))

bit_of : (n i : ℕ) (f : ℕ → Bool) → i < n → bit_at (number_of n f) i ≡ one_if (f i)
bit_of zero i f lt = absurd (omega arith)
bit_of (suc n) zero f lt = let b = small (f 0) in bit_at_lowest (number_of (suc n) f) ∙ omega (arith, b)
bit_of (suc n) (suc i) f lt =
    let b = small (f 0) in
    let half : number_of (suc n) f / 2 ≡ number_of n (λ i. f (suc i)) = omega (arith, b) in
    bit_at-suc (number_of (suc n) f) i ∙ ap (λ x. bit_at x i) half ∙ bit_of n i (λ i. f (suc i)) (omega arith)

byte_small : (f : ℕ → Bool) → number_of 8 f < 256
byte_small f =
    let a = small (f 0) in let b = small (f 1) in let c = small (f 2) in let d = small (f 3) in
    let e = small (f 4) in let g = small (f 5) in let h = small (f 6) in let i = small (f 7) in
    omega (arith, a, b, c, d, e, g, h, i)

byte_of : (ℕ → Bool) → ℕ → ℕ
byte_of f j = number_of 8 (λ i. f (8 * j + i))

-- a sector of 4096 bits
bit_sector : (ℕ → Bool) → List ℕ
bit_sector f = map (byte_of f) (range_with_len 0 512)

byte_there : (f : ℕ → Bool) (j : ℕ) → j < 512 → get_or (bit_sector f) j 0 ≡ byte_of f j
unfolding bit_sector
byte_there f j lt = get_or-map-range_with_len (byte_of f) 0 512 j j 0 lt (omega arith)

bit_sector_whole : (f : ℕ → Bool) → IsSector (bit_sector f)
unfolding bit_sector byte_of
bit_sector_whole f = record {
  len = length-map-range_with_len (byte_of f) 0 512;
  bytes = λ j. elim (cases_lt j 512) [
    | inl lt ↦ let e = byte_there f j lt in let s = byte_small (λ i. f (8 * j + i)) in omega (arith, e, s)
    | inr ge ↦ let len = length-map-range_with_len (byte_of f) 0 512 in let e = get_or_past (bit_sector f) j 0 (omega (arith, ge, len)) in omega (arith, e)
  ];
}

-- a bit of a bitmap, whose sector is one of bits
bit_there : (image : SectorMap) (start n : ℕ) (f : ℕ → Bool) → image (start + n / 4096) ≡ bit_sector f → bit image start n ≡ f (n % 4096)
unfolding bit byte_of
bit_there image start n f e =
    let byte : get_or (image (start + n / 4096)) (n % 4096 / 8) 0 ≡ byte_of f (n % 4096 / 8) =
    ap (λ s. get_or s (n % 4096 / 8) 0) e ∙ byte_there f (n % 4096 / 8) (omega arith) in
    let index : 8 * (n % 4096 / 8) + n % 8 ≡ n % 4096 = omega arith in
    ap (λ x. nat_eq (bit_at x (n % 8)) 1) byte
    ∙ ap (λ x. nat_eq x 1) (bit_of 8 (n % 8) (λ i. f (8 * (n % 4096 / 8) + i)) (omega arith))
    ∙ as_bit (f (8 * (n % 4096 / 8) + n % 8)) ∙ ap f index

from_or : (b c : Bool) → IsTrue (b || c) → IsTrue b ⊎ IsTrue c
from_or true c t = inl refl
from_or false c t = inr t

-- ---- the image

-- inode 1 is the second of the four of its sector
root_sector : List ℕ
root_sector = zeros INODE_SIZE ++ (inode_bytes root_inode ++ zeros 256)

module _ (p : Geometry) where
  -- of the inode bitmap's sector s
  inode_marks : ℕ → ℕ → Bool
  inode_marks s n =
      nat_eq (4096 * (s - p.inode_bitmap) + n) 0 || nat_le p.inodes (4096 * (s - p.inode_bitmap) + n) || nat_eq (4096 * (s - p.inode_bitmap) + n) root

  -- of the block bitmap's sector s
  block_marks : ℕ → ℕ → Bool
  block_marks s n = nat_lt (4096 * (s - p.block_bitmap) + n) p.first_data || nat_le p.sectors (4096 * (s - p.block_bitmap) + n)

  table_sector : ℕ → List ℕ
  table_sector s = cond (nat_eq s p.table) root_sector (zeros 512)

  from_map : ℕ → List ℕ
  from_map s = cond (nat_lt s p.table) (bit_sector (block_marks s)) (table_sector s)

  tables : ℕ → List ℕ
  tables s = cond (nat_lt s p.block_bitmap) (bit_sector (inode_marks s)) (from_map s)

  new_image : SectorMap
  new_image zero = super_bytes (super_for p)
  new_image (suc zero) = commit_bytes []
  new_image (suc (suc s)) = cond (nat_lt (suc (suc s)) p.inode_bitmap) (zeros 512) (tables (suc (suc s)))

-- ---- what stands where

module _ (p : Geometry) (geometry : IsGeometry p) where
  above_log : (s : ℕ) → p.inode_bitmap ≤ s → new_image p s ≡ tables p s
  unfolding new_image
  above_log zero ge = let order = after_map geometry in absurd (omega (arith, ge, order.0))
  above_log (suc zero) ge = let order = after_map geometry in absurd (omega (arith, ge, order.0))
  above_log (suc (suc s)) ge = ap (λ b. cond b (zeros 512) (tables p (suc (suc s)))) (le-ltb (suc (suc s)) p.inode_bitmap ge)

  inode_map : (s : ℕ) → p.inode_bitmap ≤ s → s < p.block_bitmap → new_image p s ≡ bit_sector (inode_marks p s)
  unfolding tables
  inode_map s ge lt = above_log s ge ∙ ap (λ b. cond b (bit_sector (inode_marks p s)) (from_map p s)) (lt-ltb s p.block_bitmap lt)

  past_inode_map : (s : ℕ) → p.block_bitmap ≤ s → new_image p s ≡ from_map p s
  unfolding tables
  past_inode_map s ge =
      let order = after_map geometry in
      above_log s (omega (arith, order.1, ge)) ∙ ap (λ b. cond b (bit_sector (inode_marks p s)) (from_map p s)) (le-ltb s p.block_bitmap ge)

  block_map : (s : ℕ) → p.block_bitmap ≤ s → s < p.table → new_image p s ≡ bit_sector (block_marks p s)
  unfolding from_map
  block_map s ge lt = past_inode_map s ge ∙ ap (λ b. cond b (bit_sector (block_marks p s)) (table_sector p s)) (lt-ltb s p.table lt)

  inode_table : (s : ℕ) → p.table ≤ s → new_image p s ≡ table_sector p s
  unfolding from_map
  inode_table s ge =
      let order = after_map geometry in
      past_inode_map s (omega (arith, order.2, ge)) ∙ ap (λ b. cond b (bit_sector (block_marks p s)) (table_sector p s)) (le-ltb s p.table ge)

  root_there : new_image p p.table ≡ root_sector
  unfolding table_sector
  root_there = inode_table p.table (omega arith) ∙ ap (λ b. cond b root_sector (zeros 512)) (eq-eqb p.table p.table refl)

  zeros_there : (s : ℕ) → p.table < s → new_image p s ≡ zeros 512
  unfolding table_sector
  zeros_there s past = inode_table s (omega (arith, past)) ∙ ap (λ b. cond b root_sector (zeros 512)) (ne_eqb s p.table (λ e. omega (arith, e, past)))

-- ---- inodes

-- a quarter of a sector of zeros is a free inode
free_quarter : (k : ℕ) → k < 4 → window (zeros 512) (INODE_SIZE * k) INODE_SIZE ≡ inode_bytes free_inode
unfolding le16 le32 le64 le32s zeros
free_quarter zero lt = refl
free_quarter (suc zero) lt = refl
free_quarter (suc (suc zero)) lt = refl
free_quarter (suc (suc (suc zero))) lt = refl
free_quarter (suc (suc (suc (suc k)))) lt = absurd (omega arith)

-- and so is one of the root's sector, but for the root's
other_quarter : (k : ℕ) → k < 4 → k ≢ 1 → window root_sector (INODE_SIZE * k) INODE_SIZE ≡ inode_bytes free_inode
unfolding root_sector le16 le32 le64 le32s zeros
other_quarter zero lt ne = refl
other_quarter (suc zero) lt ne = absurd (ne refl)
other_quarter (suc (suc zero)) lt ne = refl
other_quarter (suc (suc (suc zero))) lt ne = refl
other_quarter (suc (suc (suc (suc k)))) lt ne = absurd (omega arith)

root_quarter : window root_sector INODE_SIZE INODE_SIZE ≡ inode_bytes root_inode
unfolding root_sector le16 le32 le64 le32s zeros
root_quarter = refl

root_sector_bytes : IsBytes root_sector
unfolding root_sector
root_sector_bytes =
    IsBytes-append (zeros INODE_SIZE) (inode_bytes root_inode ++ zeros 256) (IsBytes-zeros 128)
    (IsBytes-append (inode_bytes root_inode) (zeros 256) (IsBytes-inode_bytes root_inode) (IsBytes-zeros 256))

root_sector_whole : IsSector root_sector
unfolding root_sector le16 le32 le64 le32s zeros
root_sector_whole = record { len = refl; bytes = root_sector_bytes }

-- ---- it is a new image

module _ (p : Geometry) (there : the_geometry p.version p.sectors p.inodes ≡ Some p) where
  geometry : IsGeometry p
  geometry = is_a_geometry p.version (new_header p.version p.sectors p.inodes) p.sectors p.inodes there

  whole_tables : HasWholeTables p (new_image p)
  whole_tables s from to = elim (cases_lt s p.block_bitmap) [
    | inl first ↦ subst IsSector (sym (inode_map p geometry s from first)) (bit_sector_whole (inode_marks p s))
    | inr past ↦ elim (cases_lt s p.table) [
      | inl lt ↦ subst IsSector (sym (block_map p geometry s past lt)) (bit_sector_whole (block_marks p s))
      | inr ge ↦ elim (cases_eq s p.table) [
        | inl e ↦ subst (λ k. IsSector (new_image p k)) (sym e) (subst IsSector (sym (root_there p geometry)) root_sector_whole)
        | inr other ↦ subst IsSector (sym (zeros_there p geometry s (omega (arith, ge, other)))) IsSector-zeros
      ]
    ]
  ]

  inode_bits : (n : ℕ) → n < inode_map_bits p → bit (new_image p) p.inode_bitmap n ≡ (nat_eq n 0 || nat_le p.inodes n || nat_eq n root)
  unfolding inode_marks
  inode_bits n lt =
      let k : ℕ = p.inode_bitmap + n / 4096 in
      let at : 4096 * (k - p.inode_bitmap) + n % 4096 ≡ n = omega arith in
      bit_there (new_image p) p.inode_bitmap n (inode_marks p k) (inode_map p geometry k (omega arith) (omega (arith, lt)))
      ∙ ap (λ m. nat_eq m 0 || nat_le p.inodes m || nat_eq m root) at

  block_bit : (s : ℕ) → s < map_bits p → bit (new_image p) p.block_bitmap s ≡ (nat_lt s p.first_data || nat_le p.sectors s)
  unfolding block_marks
  block_bit s lt =
      let k : ℕ = p.block_bitmap + s / 4096 in
      let at : 4096 * (k - p.block_bitmap) + s % 4096 ≡ s = omega arith in
      bit_there (new_image p) p.block_bitmap s (block_marks p k) (block_map p geometry k (omega arith) (omega (arith, lt)))
      ∙ ap (λ n. nat_lt n p.first_data || nat_le p.sectors n) at

  block_bits : (s : ℕ) → s < map_bits p → IsTrue (bit (new_image p) p.block_bitmap s) ↔ ((s < p.first_data) ⊎ (p.sectors ≤ s))
  block_bits s lt = (
    λ set. elim (from_or (nat_lt s p.first_data) (nat_le p.sectors s) (sym (block_bit s lt) ∙ set)) [
      | inl low ↦ inl (ltb-true s p.first_data low)
      | inr past ↦ inr (leb-true p.sectors s past)
    ],
    λ o. block_bit s lt ∙ elim o [
      | inl low ↦ or_true (nat_lt s p.first_data) (nat_le p.sectors s) (inl (lt-ltb s p.first_data low))
      | inr past ↦ or_true (nat_lt s p.first_data) (nat_le p.sectors s) (inr (le-leb p.sectors s past))
    ],
  )

  root_is : stored p (new_image p) root ≡ inode_bytes root_inode
  unfolding stored
  root_is =
      let sector : p.table + root / 4 ≡ p.table = omega arith in
      ap (λ s. window s INODE_SIZE INODE_SIZE) (ap (new_image p) sector ∙ root_there p geometry) ∙ root_quarter

  others_free : (n : ℕ) → n < p.inodes → n ≢ root → stored p (new_image p) n ≡ inode_bytes free_inode
  unfolding stored
  others_free n lt ne = elim (cases_lt n 4) [
    | inl few ↦
        let sector : p.table + n / 4 ≡ p.table = omega arith in
        ap (λ s. window s (INODE_SIZE * (n % 4)) INODE_SIZE) (ap (new_image p) sector ∙ root_there p geometry) ∙ other_quarter (n % 4) (omega arith) (λ e. ne (omega arith))
    | inr more ↦ ap (λ s. window s (INODE_SIZE * (n % 4)) INODE_SIZE) (zeros_there p geometry (p.table + n / 4) (omega (arith, more))) ∙ free_quarter (n % 4) (omega arith)
  ]

  new_image_is_new : IsNewImage p (new_image p)
  unfolding new_image
  new_image_is_new = record {
    has_geometry = there;
    super = refl;
    commit = refl;
    tables = whole_tables;
    inode_bits = inode_bits;
    block_bits = block_bits;
    root_is = root_is;
    free = others_free;
  }

-- Each disk that has a geometry has such an image.
pub new_images_exist : (p : Geometry) → the_geometry p.version p.sectors p.inodes ≡ Some p → (image : SectorMap) × IsNewImage p image
new_images_exist p there = (new_image p, new_image_is_new p there)

small_disk : Geometry
small_disk = laid_out Two 1024 64

small_disk_is_there : the_geometry Two 1024 64 ≡ Some small_disk
unfolding geometry_in allows_header small_disk
small_disk_is_there = refl

-- and so some image stands for a tree
pub some_image_stands : (sectors : ℕ) × (image : SectorMap) × (room : Room) × (t : Tree) × (free : ℕ) × Stands sectors image room t free
unfolding small_disk
some_image_stands =
    let image : SectorMap = new_image (laid_out Two 1024 64) in
    (1024, image, room_of (laid_out Two 1024 64), empty_tree, 878, new_disk_stands (laid_out Two 1024 64) image (new_image_is_new (laid_out Two 1024 64) small_disk_is_there))
