-- The superblock, sector 0: its bytes, and what bytes are read as.
use Rattle.std.specs.Prelude.{ℕ, ◌≡◌, ◌<◌, ◌^◌, ◌++◌, List, drop, Option, None, Some, Result, Ok, Err, nat_eq, if◌then◌else◌}
use Rattle.fs_layout.specs.declared.superblock.Super.{Super}
use Rattle.fs_layout.specs.declared.fault.LayoutFault.{LayoutFault}
use Rattle.fs_layout.specs.declared.fault.LayoutFault.TheVariants.{BadMagic, BadVersion, NotZero}
use Rattle.fs_layout.specs.declared.version.Version.{Version}
use Rattle.fs_layout.specs.declared.version.Version.TheVariants.{One, Two, Three}
use Rattle.fs_layout.specs.Version.{version_number, version_of}
use Rattle.fs_layout.specs.Bytes.{le32, zeros, u32_of, are_zero}

-- the bytes 49 4e 4f 53
abbrev pub super_magic : ℕ
super_magic = 0x534f_4e49

-- magic, version, sectors, inodes, the number of header sectors, zeros
abbrev pub super_bytes : Super → List ℕ
super_bytes v = le32 super_magic ++ (le32 (version_number v.version) ++ (le32 v.sectors ++ (le32 v.inodes ++ (le32 v.header ++ zeros 492))))

-- where the numbers of a superblock of this version end: behind the inodes, or behind the header sectors
abbrev pub numbers_end : Version → ℕ
numbers_end One = 16
numbers_end Two = 16
numbers_end Three = 20

-- there are no header sectors where the version has no field for their number
abbrev pub FitsVersion : Super → Type 0
FitsVersion v = numbers_end v.version ≡ 16 → v.header ≡ 0

-- the numbers fit their fields; without a field the number is 0
pub record FitsSuper (v : Super) : Type 0 where
  pub sectors : v.sectors < 2 ^ 32
  pub inodes : v.inodes < 2 ^ 32
  pub header : v.header < 2 ^ 32
  pub no_header : FitsVersion v

abbrev pub super_if : Option Version → List ℕ → Result Super LayoutFault
super_if None s = Err BadVersion
super_if (Some version) s =
    if are_zero (drop (numbers_end version) s) then
    Ok (record { version = version; sectors = u32_of s 8; inodes = u32_of s 12; header = u32_of s 16 }) else Err NotZero

-- the superblock that 512 bytes are, or the first fault
unfoldable pub super_of : List ℕ → Result Super LayoutFault
super_of s = if nat_eq (u32_of s 0) super_magic then super_if (version_of (u32_of s 4)) s else Err BadMagic

-- the superblock of the same disk in another version
abbrev pub with_version : Version → Super → Super
with_version version v = record { version = version; sectors = v.sectors; inodes = v.inodes; header = v.header }
