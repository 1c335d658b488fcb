-- What is free on a disk that stands for a tree.
use Rattle.std.specs.Prelude.{◌≡◌, ℕ, Some, Ok}
use Rattle.std.proofs.Common.{sym, ap, subst, ◌∙◌}
use Rattle.fs_layout.specs.declared.geometry.Geometry.{Geometry}
use Rattle.fs_layout.specs.declared.superblock.Super.{Super}
use Rattle.fs_layout.specs.Bytes.{SectorMap}
use Rattle.fs_layout.specs.Images.{free_sectors}
use Rattle.fs_layout.specs.Geometry.{geometry_in}
use Rattle.fs_layout.specs.Recovered.{recovered}
use Rattle.fs_layout.specs.Superblock.{super_of}
use Rattle.fs_layout.proofs.Codecs.{same_ok}
use Rattle.fs_layout.proofs.SuperLaw.{super_codec}
use Rattle.fs_model.specs.Rules.{IsGeometryOf}
use Rattle.fs_model.specs.Stands.{Stands}
use Rattle.fs_model.specs.Trees.{Tree, Room, IsTree, free_inodes}
use Rattle.fs_model.proofs.FreeInodes.{free_are_clear}
use Rattle.fs_info.specs.Infos.{clear_bits}

module _ (size : ℕ) (image : SectorMap) (p : Geometry) (is : IsGeometryOf size image p) (room : Room) (t : Tree) (free : ℕ) (x : Stands size image room t free) where
  same : x.geometry ≡ p
  same =
      let super_is : super_of (image 0) ≡ Ok x.super = ap super_of x.super_is ∙ super_codec.again x.super x.super_fits in
      let super : x.super ≡ is.super = same_ok x.super is.super (super_of (image 0)) super_is is.super_is in
      let there : Some x.geometry ≡ Some p = sym x.has_geometry ∙ ap (λ (s : Super). geometry_in s.version s.header size s.inodes) super ∙ is.has_geometry in
      cc

  pub free_there : free_sectors p (recovered size image) ≡ free
  free_there = ap (λ (q : Geometry). free_sectors q (recovered size image)) (sym same) ∙ sym x.free_is

  pub inodes_there : clear_bits (recovered size image) p.inode_bitmap 0 p.inodes ≡ free_inodes room t
  inodes_there =
      ap (λ (q : Geometry). clear_bits (recovered size image) q.inode_bitmap 0 q.inodes) (sym same)
      ∙ sym (free_are_clear x.geometry (recovered size image) t x.holds (subst (λ r. IsTree r t) x.room_is x.tree_is))
      ∙ ap (λ r. free_inodes r t) (sym x.room_is)
