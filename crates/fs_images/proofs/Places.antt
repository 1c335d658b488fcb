-- Where the parts of a disk lie that stands for a tree, and what room it has.
use Rattle.std.proofs.Common.{◌≡◌, ◌<◌, ◌≤◌, ◌^◌, ℕ, length, Option, Some, None, Ok, Err, Result, sym, ap, subst, ◌∙◌, arith}
use Rattle.sector_disk.specs.Disk.{Image}
use Rattle.fs_layout.specs.declared.geometry.Geometry.{Geometry}
use Rattle.fs_layout.specs.declared.superblock.Super.{Super}
use Rattle.fs_layout.specs.Geometry.{IsGeometry, geometry_for, geometry_in}
use Rattle.fs_layout.specs.declared.version.Version.{Version}
use Rattle.fs_layout.specs.declared.version.Version.TheVariants.{One, Two, Three}
use Rattle.fs_layout.specs.Version.{max_inode_names}
use Rattle.fs_layout.proofs.SlotSizes.{name_most}
use Rattle.fs_layout.proofs.Versions.{file_bounds}
use Rattle.fs_layout.proofs.Places.{numbers_most, geometry_is_laid_out, is_a_geometry}
use Rattle.fs_model.specs.Trees.{Tree, Room}
use Rattle.fs_model.specs.States.{IsRoom}
use Rattle.fs_images.specs.Standing.{StandsFor}

-- in each version an inode has some name, and its names can be counted
inode_names : (version : Version) → (1 ≤ max_inode_names version) × (max_inode_names version < 2 ^ 32)
inode_names One = (omega arith, omega arith)
inode_names Two = (omega arith, omega arith)
inode_names Three = (omega arith, omega arith)

module _ (seen : Image) (room : Room) (t : Tree) (free : ℕ) (st : StandsFor room seen t free) where
  pub is_geometry : IsGeometry st.geometry
  is_geometry = is_a_geometry _ _ (length seen) st.super.inodes st.has_geometry

  pub some_sectors : 0 < length seen
  some_sectors =
      let all : st.geometry.sectors ≡ length seen = ap (λ (p : Geometry). p.sectors) (geometry_is_laid_out (length seen) st.super.inodes st.has_geometry) in
      let least = is_geometry.least_sectors in
      omega (arith, all, least)

  -- the commit and its log have sectors
  pub many_sectors : 128 ≤ length seen
  many_sectors =
      let all : st.geometry.sectors ≡ length seen = ap (λ (p : Geometry). p.sectors) (geometry_is_laid_out (length seen) st.super.inodes st.has_geometry) in
      let least = is_geometry.least_sectors in
      omega (arith, all, least)

  -- the geometry that a superblock gives
  pub geometry_found : (v : Super) → v ≡ st.super → geometry_for v ≡ Some st.geometry
  geometry_found v same =
      ap geometry_for same ∙ ap (λ (n : ℕ). geometry_in st.super.version st.super.header n st.super.inodes) st.same_size ∙ st.has_geometry

  pub is_room : IsRoom room
  is_room =
      let most = numbers_most is_geometry in
      let limit = (file_bounds st.geometry.version).1 in
      subst IsRoom (sym st.room_is) (record {
        inodes = most.1;
        sectors = omega (arith, most.0);
        file_limit = omega (arith, limit);
        name_limit = name_most st.geometry.version;
        some_names = (inode_names st.geometry.version).0;
        names_limit = (inode_names st.geometry.version).1;
      })

pub some_same : {A : Type 0} (x y : A) (o : Option A) → o ≡ Some x → o ≡ Some y → x ≡ y
some_same x y o e f = cc

pub ok_or_err : {A E : Type 0} (x : A) (e : E) (r : Result A E) → r ≡ Ok x → r ≡ Err e → ⊥
ok_or_err x e r a b = cc

pub some_or_none : {A : Type 0} (x : A) (o : Option A) → o ≡ Some x → o ≡ None → ⊥
some_or_none x o a b = cc
