-- A bit of a bitmap, and what it has to be.
use Rattle.std.specs.Prelude.{◌≡◌, ℕ, ◌+◌, ◌*◌, ◌/◌, ◌%◌, ◌-◌, ◌^◌, ◌<◌, ◌≤◌, nat_eq, nat_lt, nat_le, not, ◌||◌, Bool, true, false, List, drop, get_or, IsTrue, ◌⊎◌, ◌↔◌}
use Rattle.std.proofs.Common.{refl, sym, ap, arith, ◌∙◌, inl, inr}
use Rattle.std.specs.Int.{bit_at}
use Rattle.std.proofs.Math.Bool.{beq}
use Rattle.std.proofs.lemmas.Bool.{le-ltb, lt-leb}
use Rattle.byteorder.specs.Endian.{little_number}
use Rattle.byteorder.specs.Numbers.{little_from-take}
use Rattle.fs_layout.specs.declared.inode.TheConstants.{INODE_SIZE}
use Rattle.fs_layout.specs.declared.geometry.Geometry.{Geometry}
use Rattle.fs_layout.specs.Bytes.{SectorMap, u16_of}
use Rattle.fs_layout.specs.Images.{inode_map_bits, bit, stored}
use Rattle.fs_layout.specs.Ownership.{IsOwned}
use Rattle.fs_layout.proofs.Places.{is_a_geometry, after_map, before_data}
use Rattle.fs_model.specs.Rules.{IsGeometryOf, IsBit, IsBlockBit}
use Rattle.fs_check.specs.BitTables.{bit_in}
use Rattle.fs_check.specs.Checks.{IsOwnerMap}
use Rattle.fs_check.specs.TableSectors.{IsTableSector}
use Rattle.fs_check.proofs.Openings.{geometry_size}

pub bit_there : (m : SectorMap) (start n : ℕ) (s : List ℕ) → s ≡ m (start + n / 4096) → nat_eq (bit_at (get_or s (n % 4096 / 8) 0) (n % 8)) 1 ≡ bit m start n
unfolding bit
bit_there m start n s is = ap (λ (t : List ℕ). nat_eq (bit_at (get_or t (n % 4096 / 8) 0) (n % 8)) 1) is

-- a field at the start of an inode's bytes
field_there : (p : Geometry) (m : SectorMap) (n : ℕ) (content : List ℕ) → content ≡ m (p.table + n / 4) → u16_of content (INODE_SIZE * (n % 4)) ≡ u16_of (stored p m n) 0
unfolding stored u16_of
field_there p m n content is =
    ap (λ (s : List ℕ). little_number 2 (drop (INODE_SIZE * (n % 4)) s)) is
    ∙ sym (little_from-take 0 2 INODE_SIZE (drop (INODE_SIZE * (n % 4)) (m (p.table + n / 4))) (omega arith))

pub taken_there : (p : Geometry) (m : SectorMap) (n : ℕ) (content : List ℕ) (k : ℕ) → 2 ≤ n → n < p.inodes → k ≡ u16_of content (INODE_SIZE * (n % 4))
    → IsTableSector p m n content
    → not (nat_eq k 0) ≡ (nat_lt n 2 || nat_le p.inodes n || not (nat_eq (u16_of (stored p m n) 0) 0))
taken_there p m n content k past below is there =
    let field : k ≡ u16_of (stored p m n) 0 = is ∙ field_there p m n content (there below) in
    let low : nat_lt n 2 ≡ false = le-ltb n 2 past in
    let high : nat_le p.inodes n ≡ false = lt-leb p.inodes n below in
    rw (low, high) (ap (λ (x : ℕ). not (nat_eq x 0)) field)

pub same_bits : (b t : Bool) → not (beq b t) ≡ false → b ≡ t
same_bits true true e = refl
same_bits false false e = refl
same_bits true false e = absurd cc
same_bits false true e = absurd cc

pub other_bits : (b t : Bool) → not (beq b t) ≡ true → b ≡ t → ⊥
other_bits true true e same = absurd cc
other_bits false false e same = absurd cc
other_bits true false e same = absurd cc
other_bits false true e same = absurd cc

-- bit n of the inode bitmap, and what it has to be
pub is_bit : (p : Geometry) (m : SectorMap) (n : ℕ) (map table : List ℕ) (b t : Bool) → map ≡ m (p.inode_bitmap + n / 4096) → IsTableSector p m n table
    → ((m : SectorMap) (start : ℕ) → map ≡ m (start + n / 4096) → b ≡ bit m start n)
    → ((m : SectorMap) → IsTableSector p m n table → t ≡ (nat_lt n 2 || nat_le p.inodes n || not (nat_eq (u16_of (stored p m n) 0) 0)))
    → (b ≡ t) ↔ IsBit p m n
is_bit p m n map table b t read there set taken =
    let is = set m p.inode_bitmap read in
    let should = taken m there in
    ((λ same. sym is ∙ same ∙ should), (λ bit_is. is ∙ bit_is ∙ sym should))

alike : (b t : Bool) → (IsTrue b → IsTrue t) → (IsTrue t → IsTrue b) → b ≡ t
alike true t to from = sym (to refl)
alike false true to from = from refl
alike false false to from = refl

-- bit s of the block bitmap, and what it has to be
pub is_block_bit : (p : Geometry) (m : SectorMap) (s : ℕ) (b t : Bool) → b ≡ bit m p.block_bitmap s
    → (IsTrue t ↔ ((s < p.first_data) ⊎ ((p.sectors ≤ s) ⊎ IsOwned p m s))) → (b ≡ t) ↔ IsBlockBit p m s
is_block_bit p m s b t is used = (
  λ same. ((λ set. used.0 (sym same ∙ is ∙ set)), (λ has. sym is ∙ same ∙ used.1 has)),
  λ right. alike b t (λ set. used.1 (right.0 (sym is ∙ set))) (λ set. is ∙ right.1 (used.0 set)),
)

-- a bit of sector k of a bitmap
pub in_sector : (m : SectorMap) (start k n : ℕ) (map : List ℕ) → 4096 * k ≤ n → n < 4096 * (k + 1) → map ≡ m (start + k) → map ≡ m (start + n / 4096)
in_sector m start k n map low lt there =
    let same : k ≡ n / 4096 = omega (arith, low, lt) in
    there ∙ ap (λ (j : ℕ). m (start + j)) same

-- whether a data sector is owned
pub used_there : (p : Geometry) (m : SectorMap) (owned : List Bool) (s : ℕ) → IsOwnerMap p m owned → p.first_data ≤ s → s < p.sectors
    → IsTrue (get_or owned s false) ↔ ((s < p.first_data) ⊎ ((p.sectors ≤ s) ⊎ IsOwned p m s))
used_there p m owned s owners from below =
    let is = owners.each s below in (
      λ set. inr (inr (is.0 set)),
      λ used. elim used [
        | inl low ↦ absurd (omega (arith, low, from))
        | inr other ↦ elim other [ inl past ↦ absurd (omega (arith, past, below)) | inr by ↦ is.1 by ]
      ],
    )

-- the bit of a sector is right, where that of the owner map is the same
pub bits_right : (p : Geometry) (m : SectorMap) (owned : List Bool) (map : List ℕ) (k s : ℕ) → IsOwnerMap p m owned → map ≡ m (p.block_bitmap + k)
    → p.first_data ≤ s → s < p.sectors → 4096 * k ≤ s → s < 4096 * (k + 1) → get_or owned s false ≡ bit_in map (s % 4096) → IsBlockBit p m s
bits_right p m owned map k s owners there from below low lt same =
    let place : s % 4096 % 8 ≡ s % 8 = omega arith in
    let is = same ∙ ap (λ (i : ℕ). nat_eq (bit_at (get_or map (s % 4096 / 8) 0) i) 1) place
    ∙ bit_there m p.block_bitmap s map (in_sector m p.block_bitmap k s map low lt there) in
    (is_block_bit p m s (get_or owned s false) (get_or owned s false) is (used_there p m owned s owners from below)).0 refl

-- where the bitmaps stand, and that their bits have numbers
pub record HasMaps (size : ℕ) (p : Geometry) : Type 0 where
  pub inode_map : p.inode_bitmap < p.block_bitmap
  pub block_map : p.block_bitmap < p.table
  pub on_disk : p.table < size
  pub small : 4096 * (p.table - p.inode_bitmap) < 2 ^ 32

pub maps_geometry : (size : ℕ) (image : SectorMap) (p : Geometry) → IsGeometryOf size image p → HasMaps size p
maps_geometry size image p x =
    let geometry = is_a_geometry _ _ size x.super.inodes x.has_geometry in
    let order = after_map geometry in
    let same = geometry_size size image p x in
    let before = before_data geometry in
    let room = geometry.data_sectors in
    let few = geometry.room in
    let header = geometry.header in
    record { inode_map = order.1; block_map = order.2; on_disk = omega (arith, same, before, room); small = omega (arith, few, header) }

-- the sector of the inode bitmap in which a bit stands is on the disk
pub map_on_disk : (size : ℕ) (image : SectorMap) (p : Geometry) (n : ℕ) → IsGeometryOf size image p → n < inode_map_bits p → p.inode_bitmap + n / 4096 < size
map_on_disk size image p n x lt =
    let maps = maps_geometry size image p x in
    let block_map = maps.block_map in
    let on_disk = maps.on_disk in
    omega (arith, lt, block_map, on_disk)
