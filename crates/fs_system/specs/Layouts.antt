-- How a disk is laid out.
--     IsDiskOf        sector 0 of a map says how a disk of so many sectors is laid out
use Rattle.std.specs.Prelude.{◌≡◌, ℕ, Some}
use Rattle.fs_layout.specs.declared.superblock.Super.{Super}
use Rattle.fs_layout.specs.declared.geometry.Geometry.{Geometry}
use Rattle.fs_layout.specs.Bytes.{SectorMap}
use Rattle.fs_layout.specs.Superblock.{super_bytes, FitsSuper}
use Rattle.fs_layout.specs.Geometry.{geometry_in}

pub record IsDiskOf (size : ℕ) (p : Geometry) (map : SectorMap) : Type 0 where
  pub super : Super
  pub super_is : map 0 ≡ super_bytes super
  pub super_fits : FitsSuper super
  pub same_size : super.sectors ≡ size
  pub has_geometry : geometry_in super.version super.header size super.inodes ≡ Some p
