-- Where the parts of a disk begin.
--     are_in_range, allows_header        how many sectors, inodes and header sectors a disk may have
--     laid_out_in, geometry_in        the layout of a disk, by its version and its header sectors
--     least_header, new_header        how many header sectors a new disk has
--     laid_out, the_geometry        the layout of a new disk
--     super_for, geometry_for        the superblock of a layout, and the layout that a superblock gives
--     IsGeometry        what each layout has
use Rattle.std.specs.Prelude.{◌≡◌, ℕ, ◌+◌, ◌-◌, ◌*◌, ◌/◌, ◌≤◌, min, max, Bool, Option, Some, None, nat_eq, nat_le, nat_lt, not, ◌&&◌, if◌then◌else◌}
use Rattle.std.specs.Int.{div_ceil}
use Rattle.fs_layout.specs.declared.geometry.Geometry.{Geometry}
use Rattle.fs_layout.specs.declared.version.Version.{Version}
use Rattle.fs_layout.specs.declared.version.Version.TheVariants.{One, Two, Three}
use Rattle.fs_layout.specs.declared.superblock.Super.{Super}
use Rattle.fs_layout.specs.Version.{max_sectors, max_inodes}
use Rattle.fs_layout.specs.declared.header.TheConstants.{MAX_HEADER}
use Rattle.fs_layout.specs.Header.{log_end, max_delta}
use Rattle.fs_layout.specs.declared.commit.TheConstants.{HEADER_TARGETS}
use Rattle.fs_layout.specs.declared.geometry.TheConstants.{SECTOR_BITS, SECTORS_A_HEADER, MOST_NEW_HEADER}

-- so many sectors and inodes, one part right after the other behind the log: a sector of the inode bitmap for each `SECTOR_BITS`
-- inodes, one of the block bitmap for each `SECTOR_BITS` sectors, one of the inode table for each four inodes, and the data
abbrev pub laid_out_in : Version → ℕ → ℕ → ℕ → Geometry
laid_out_in version header sectors inodes =
    let inode_bitmap = log_end header in
    let block_bitmap = inode_bitmap + div_ceil inodes SECTOR_BITS in
    let table = block_bitmap + div_ceil sectors SECTOR_BITS in
    record {
      version = version;
      sectors = sectors;
      inodes = inodes;
      header = header;
      inode_bitmap = inode_bitmap;
      block_bitmap = block_bitmap;
      table = table;
      first_data = table + div_ceil inodes 4;
    }

-- the numbers of sectors and inodes are in the range of the version
abbrev pub are_in_range : Version → ℕ → ℕ → Bool
are_in_range version sectors inodes =
    (nat_le 1024 sectors && nat_le sectors (max_sectors version)) && (nat_le 16 inodes && nat_le inodes (max_inodes version))

-- A disk of this version may have so many header sectors: in versions 1 and 2 none, and else as many as a log area may have, with
-- which a call that puts each sector of the bitmaps has room for 47 more.
unfoldable pub allows_header : Version → ℕ → ℕ → ℕ → Bool
allows_header One header sectors inodes = nat_eq header 0
allows_header Two header sectors inodes = nat_eq header 0
allows_header Three header sectors inodes =
    (nat_le 1 header && nat_le header MAX_HEADER)
    && nat_le (div_ceil inodes SECTOR_BITS + div_ceil sectors SECTOR_BITS + 47) (max_delta header)

-- the layout of a disk; None where these numbers are out of range, or leave fewer than 64 data sectors
unfoldable pub geometry_in : Version → ℕ → ℕ → ℕ → Option Geometry
geometry_in version header sectors inodes =
    if not (are_in_range version sectors inodes) then None else
    (if not (allows_header version header sectors inodes) then None else
    (if nat_lt sectors ((laid_out_in version header sectors inodes).first_data + 64) then None else
    Some (laid_out_in version header sectors inodes)))

-- the fewest header sectors with which a call that puts each sector of the bitmaps has room for 47 more
abbrev pub least_header : ℕ → ℕ → ℕ
least_header sectors inodes = div_ceil (div_ceil inodes SECTOR_BITS + div_ceil sectors SECTOR_BITS - 17) HEADER_TARGETS

-- A new disk of version 3 has a header sector for each `SECTORS_A_HEADER` sectors, up to `MOST_NEW_HEADER`, so that the syncs of a
-- large disk carry more; but not fewer than it needs, nor none.
abbrev pub new_header : Version → ℕ → ℕ → ℕ
new_header One sectors inodes = 0
new_header Two sectors inodes = 0
new_header Three sectors inodes = max (max (least_header sectors inodes) (min (sectors / SECTORS_A_HEADER) MOST_NEW_HEADER)) 1

abbrev pub laid_out : Version → ℕ → ℕ → Geometry
laid_out version sectors inodes = laid_out_in version (new_header version sectors inodes) sectors inodes

-- the layout of a new disk of this version; None where these numbers are out of range, or leave fewer than 64 data sectors
abbrev pub the_geometry : Version → ℕ → ℕ → Option Geometry
the_geometry version sectors inodes = geometry_in version (new_header version sectors inodes) sectors inodes

-- the superblock of a disk of this layout
abbrev pub super_for : Geometry → Super
super_for p = record { version = p.version; sectors = p.sectors; inodes = p.inodes; header = p.header }

-- the layout of a disk with this superblock; None where a disk may not have these numbers
abbrev pub geometry_for : Super → Option Geometry
geometry_for v = geometry_in v.version v.header v.sectors v.inodes

-- what each layout has: the numbers in range, one part behind the other, a bit for each inode and each sector, room for each inode,
-- and 64 data sectors; and a call may put each sector of the bitmaps, and 47 more
pub record IsGeometry (geometry : Geometry) : Type 0 where
  pub least_sectors : 1024 ≤ geometry.sectors
  pub most_sectors : geometry.sectors ≤ max_sectors geometry.version
  pub least_inodes : 16 ≤ geometry.inodes
  pub most_inodes : geometry.inodes ≤ max_inodes geometry.version
  pub header : geometry.header ≤ MAX_HEADER
  pub log : geometry.inode_bitmap ≡ log_end geometry.header
  pub inode_bits : geometry.inodes ≤ SECTOR_BITS * (geometry.block_bitmap - geometry.inode_bitmap)
  pub bits : geometry.sectors ≤ SECTOR_BITS * (geometry.table - geometry.block_bitmap)
  pub slots : geometry.inodes ≤ 4 * (geometry.first_data - geometry.table)
  pub room : geometry.table - geometry.inode_bitmap + 47 ≤ max_delta geometry.header
  pub data_sectors : geometry.first_data + 64 ≤ geometry.sectors
