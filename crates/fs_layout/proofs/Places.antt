-- What follows from a disk's having a geometry, and what a geometry says of where the parts stand.
use Rattle.std.proofs.Common.{◌≡◌, ℕ, zero, suc, ◌+◌, ◌*◌, ◌<◌, ◌≤◌, Bool, true, false, cond, Option, Some, None, refl, sym, subst, arith, nat_le, nat_lt, not, ◌&&◌}
use Rattle.std.proofs.lemmas.Bool.{and_parts, eqb-true, leb-true, le-leb, lt-leb, ltb-false}
use Rattle.std.specs.Int.{div_ceil}
use Rattle.std.specs.Prelude.{IfSome}
use Rattle.fs_layout.specs.declared.header.TheConstants.{MAX_HEADER, LEAST_LOG_END}
use Rattle.fs_layout.specs.declared.geometry.Geometry.{Geometry}
use Rattle.fs_layout.specs.declared.geometry.TheConstants.{SECTOR_BITS}
use Rattle.fs_layout.specs.declared.version.Version.{Version}
use Rattle.fs_layout.specs.declared.version.Version.TheVariants.{One, Two, Three}
use Rattle.fs_layout.specs.Header.{log_end, max_delta}
use Rattle.fs_layout.specs.Version.{max_sectors, max_inodes}
use Rattle.fs_layout.specs.declared.superblock.Super.{Super}
use Rattle.fs_layout.specs.Superblock.{FitsVersion, numbers_end}
use Rattle.fs_layout.specs.Geometry.{IsGeometry, allows_header, are_in_range, least_header, new_header, geometry_for, geometry_in, laid_out_in, super_for}

-- a disk of the third version may have the most sectors and inodes
numbers_to : (version : Version) → (max_sectors version ≤ max_sectors Three) × (max_inodes version ≤ max_inodes Three)
numbers_to One = (omega arith, omega arith)
numbers_to Two = (omega arith, omega arith)
numbers_to Three = (omega arith, omega arith)

-- ---- from the numbers of a disk
some_of : {A : Type 0} (b : Bool) (x : Option A) (y : A) → cond (not b) None x ≡ Some y → (b ≡ true) × (x ≡ Some y)
some_of true x y e = (refl, e)
some_of false x y e = absurd cc

some_unless : {A : Type 0} (b : Bool) (x : Option A) (y : A) → cond b None x ≡ Some y → (b ≡ false) × (x ≡ Some y)
some_unless true x y e = absurd cc
some_unless false x y e = (refl, e)

-- the tests that a disk with a geometry has passed
record Passed (version : Version) (header sectors inodes : ℕ) : Type 0 where
  range : are_in_range version sectors inodes ≡ true
  header_allowed : allows_header version header sectors inodes ≡ true
  room : (laid_out_in version header sectors inodes).first_data + 64 ≤ sectors

placed : {p : Geometry} {version : Version} {header : ℕ} (sectors inodes : ℕ) → geometry_in version header sectors inodes ≡ Some p
    → (p ≡ laid_out_in version header sectors inodes) × Passed version header sectors inodes
unfolding geometry_in
placed {p} {version} {header} s i e =
    let l : Geometry = laid_out_in version header s i in
    let full = nat_lt s (l.first_data + 64) in
    let x = some_of (are_in_range version s i) (cond (not (allows_header version header s i)) None (cond full None (Some l))) p e in
    let y = some_of (allows_header version header s i) (cond full None (Some l)) p x.1 in
    let z = some_unless full (Some l) p y.1 in
    (sym (same_some l p z.1), record { range = x.0; header_allowed = y.0; room = ltb-false s (l.first_data + 64) z.0 })
  where
    same_some : (x y : Geometry) → Some x ≡ Some y → x ≡ y
    same_some x y e = cc

-- the geometry of a disk is that of its parts as they are laid out
pub geometry_is_laid_out : {p : Geometry} {version : Version} {header : ℕ} (sectors inodes : ℕ) → geometry_in version header sectors inodes ≡ Some p
    → p ≡ laid_out_in version header sectors inodes
geometry_is_laid_out s i e = (placed s i e).0

-- what the tests of the numbers say
record InRange (version : Version) (sectors inodes : ℕ) : Type 0 where
  sectors_from : 1024 ≤ sectors
  sectors_to : sectors ≤ max_sectors version
  inodes_from : 16 ≤ inodes
  inodes_to : inodes ≤ max_inodes version

in_range : (version : Version) (sectors inodes : ℕ) → are_in_range version sectors inodes ≡ true → InRange version sectors inodes
in_range version s i e =
    let both = and_parts (nat_le 1024 s && nat_le s (max_sectors version)) (nat_le 16 i && nat_le i (max_inodes version)) e in
    let a = and_parts (nat_le 1024 s) (nat_le s (max_sectors version)) both.0 in
    let b = and_parts (nat_le 16 i) (nat_le i (max_inodes version)) both.1 in
    record {
      sectors_from = leb-true 1024 s a.0;
      sectors_to = leb-true s (max_sectors version) a.1;
      inodes_from = leb-true 16 i b.0;
      inodes_to = leb-true i (max_inodes version) b.1;
    }

-- and what that of the header sectors says
record HasHeader (header sectors inodes : ℕ) : Type 0 where
  most : header ≤ MAX_HEADER
  room : div_ceil inodes SECTOR_BITS + div_ceil sectors SECTOR_BITS + 47 ≤ max_delta header

has_header : (version : Version) (header sectors inodes : ℕ) → InRange version sectors inodes → allows_header version header sectors inodes ≡ true
    → HasHeader header sectors inodes
unfolding allows_header
has_header One header s i r e = let none = eqb-true header 0 e in let a = r.sectors_to in let b = r.inodes_to in record { most = omega (arith, none); room = omega arith }
has_header Two header s i r e = let none = eqb-true header 0 e in let a = r.sectors_to in let b = r.inodes_to in record { most = omega (arith, none); room = omega arith }
has_header Three header s i r e =
    let bitmaps = div_ceil i SECTOR_BITS + div_ceil s SECTOR_BITS + 47 in
    let both = and_parts (nat_le 1 header && nat_le header MAX_HEADER) (nat_le bitmaps (max_delta header)) e in
    let few = and_parts (nat_le 1 header) (nat_le header MAX_HEADER) both.0 in
    record { most = leb-true header MAX_HEADER few.1; room = leb-true bitmaps (max_delta header) both.1 }

-- a new disk may have the header sectors that it gets
pub new_header_allowed : (version : Version) (sectors inodes : ℕ) → are_in_range version sectors inodes ≡ true
    → allows_header version (new_header version sectors inodes) sectors inodes ≡ true
unfolding allows_header
new_header_allowed One s i range = refl
new_header_allowed Two s i range = refl
new_header_allowed Three s i range =
    let r = in_range Three s i range in
    let a = r.sectors_to in
    let b = r.inodes_to in
    rw (
      le-leb 1 (new_header Three s i) (omega arith),
      le-leb (new_header Three s i) MAX_HEADER (omega (arith, a, b)),
      le-leb (div_ceil i SECTOR_BITS + div_ceil s SECTOR_BITS + 47) (max_delta (new_header Three s i)) (omega (arith, a, b)),
    ) refl

-- and with fewer than the fewest there is no room
pub too_few_headers : (header sectors inodes : ℕ) → header < least_header sectors inodes → allows_header Three header sectors inodes ≡ false
unfolding allows_header
too_few_headers header s i few =
    rw (lt-leb (div_ceil i SECTOR_BITS + div_ceil s SECTOR_BITS + 47) (max_delta header) (omega (arith, few))) (and_false (nat_le 1 header && nat_le header MAX_HEADER))
  where
    and_false : (b : Bool) → (b && false) ≡ false
    and_false true = refl
    and_false false = refl

-- numbers that passed both tests are small
pub numbers_allowed : (version : Version) (header sectors inodes : ℕ) → are_in_range version sectors inodes ≡ true → allows_header version header sectors inodes ≡ true
    → (header ≤ MAX_HEADER) × (sectors ≤ max_sectors Three) × (inodes ≤ max_inodes Three)
numbers_allowed version header s i range allowed =
    let r = in_range version s i range in
    let m = numbers_to version in
    let a = r.sectors_to in
    let b = r.inodes_to in
    ((has_header version header s i r allowed).most, omega (arith, a, m.0), omega (arith, b, m.1))

-- the log ends soon
log_end_most : (header : ℕ) → log_end header ≤ LEAST_LOG_END + 126 + 258 * header
log_end_most zero = omega arith
log_end_most (suc less) = omega arith

-- and all parts before the data are small together
pub parts_small : (version : Version) (header sectors inodes : ℕ) → are_in_range version sectors inodes ≡ true → allows_header version header sectors inodes ≡ true
    → log_end header + div_ceil inodes SECTOR_BITS + div_ceil sectors SECTOR_BITS + div_ceil inodes 4 ≤ 300000
parts_small version header s i range allowed =
    let most = numbers_allowed version header s i range allowed in
    let log = log_end_most header in
    omega (arith, most, log)

laid_out_is_geometry : (version : Version) (header s i : ℕ) → Passed version header s i → IsGeometry (laid_out_in version header s i)
laid_out_is_geometry version header s i p =
    let r = in_range version s i p.range in
    let h = has_header version header s i r p.header_allowed in
    let room = h.room in
    record {
      least_sectors = r.sectors_from;
      most_sectors = r.sectors_to;
      least_inodes = r.inodes_from;
      most_inodes = r.inodes_to;
      header = h.most;
      log = refl;
      inode_bits = omega arith;
      bits = omega arith;
      slots = omega arith;
      room = omega (arith, room);
      data_sectors = p.room;
    }

-- a disk that has a geometry has room for its parts
pub is_a_geometry : {p : Geometry} (version : Version) (header sectors inodes : ℕ) → geometry_in version header sectors inodes ≡ Some p → IsGeometry p
is_a_geometry version header s i e = let x = placed s i e in subst IsGeometry (sym x.0) (laid_out_is_geometry version header s i x.1)

-- so its superblock has a field for its header sectors, or there are none
header_if : (version : Version) (header sectors inodes : ℕ) → allows_header version header sectors inodes ≡ true → numbers_end version ≡ 16 → header ≡ 0
unfolding allows_header
header_if One header sectors inodes allowed end = eqb-true header 0 allowed
header_if Two header sectors inodes allowed end = eqb-true header 0 allowed
header_if Three header sectors inodes allowed end = absurd (omega (arith, end))

pub header_fits : {p : Geometry} (v : Super) → geometry_for v ≡ Some p → FitsVersion v
header_fits v e = header_if v.version v.header v.sectors v.inodes (placed v.sectors v.inodes e).1.header_allowed

pub layout_fits : {p : Geometry} (version : Version) (header sectors inodes : ℕ) → geometry_in version header sectors inodes ≡ Some p → FitsVersion (super_for p)
layout_fits version header s i e =
    let x = placed s i e in
    subst (λ (q : Geometry). FitsVersion (super_for q)) (sym x.0) (header_if version header s i x.1.header_allowed)

pub found_fits : (v : Super) (found : Option Geometry) → found ≡ geometry_for v → IfSome found (λ p. FitsVersion v)
found_fits v None is = tt
found_fits v (Some p) is = header_fits v (sym is)

-- ---- from a geometry
-- log, inode bitmap, block bitmap and inode table stand one behind the other
pub after_map : {p : Geometry} → IsGeometry p → (128 ≤ p.inode_bitmap) × (p.inode_bitmap < p.block_bitmap) × (p.block_bitmap < p.table)
after_map geometry =
    let log = geometry.log in
    let inodes = geometry.inode_bits in
    let some = geometry.least_inodes in
    let bits = geometry.bits in
    let least = geometry.least_sectors in
    (omega (arith, log), omega (arith, inodes, some), omega (arith, bits, least))

-- the inode table stands before the data
pub before_data : {p : Geometry} → IsGeometry p → p.table ≤ p.first_data
before_data geometry = let slots = geometry.slots in let least = geometry.least_inodes in omega (arith, slots, least)

-- as many sectors and inodes as a disk may have in any version
pub numbers_most : {p : Geometry} → IsGeometry p → (p.sectors ≤ max_sectors Three) × (p.inodes ≤ max_inodes Three)
numbers_most {p} geometry =
    let s = geometry.most_sectors in
    let i = geometry.most_inodes in
    let m = numbers_to p.version in
    (omega (arith, s, m.0), omega (arith, i, m.1))
