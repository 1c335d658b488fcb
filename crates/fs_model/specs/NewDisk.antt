-- What a new disk holds, as mkfs leaves it: our own layout.
--     empty_tree        an empty root of user 0, 0755
--     root_inode        its inode
--     IsNewImage        an image with it, and nothing else
use Rattle.std.specs.Prelude.{◌≡◌, ◌≢◌, ℕ, ◌<◌, ◌≤◌, ◌⊎◌, ◌↔◌, nat_eq, nat_le, ◌||◌, false, [], ◌∷◌, None, Some, IsTrue}
use Rattle.posix_acl.specs.AccessList.{minimal}
use Rattle.fs_layout.specs.declared.inode.Kind.TheVariants as kinds
use Rattle.fs_layout.specs.declared.inode.Inode.{Inode}
use Rattle.fs_layout.specs.declared.geometry.Geometry.{Geometry}
use Rattle.fs_layout.specs.Bytes.{SectorMap}
use Rattle.fs_layout.specs.Superblock.{super_bytes}
use Rattle.fs_layout.specs.Commit.{commit_bytes}
use Rattle.fs_layout.specs.Inode.{inode_bytes, free_inode}
use Rattle.fs_layout.specs.Geometry.{the_geometry, super_for}
use Rattle.fs_layout.specs.Images.{HasWholeTables, inode_map_bits, map_bits, bit, stored}
use Rattle.fs_model.specs.Limits.{root}
use Rattle.fs_model.specs.Nodes.{no_stamps, Dir}
use Rattle.fs_model.specs.Trees.{Tree}

abbrev pub empty_tree : Tree
empty_tree = (
  root,
  record {
    owner = 0;
    group = 0;
    body = Dir (minimal 0o755) (record { names = []; default = None; set_group_id = false; sticky = false });
    stamps = no_stamps;
  },
) ∷ []

-- the root has one name, as each directory, and is its own parent
abbrev pub root_inode : Inode
root_inode = record free_inode { kind = kinds.Directory; mode = 0o755; names = 1; parent = root }

-- The commit sector is idle. All inodes but the root's are free. Of the block bitmap the bits below the data and past the
-- end are set.
pub record IsNewImage (p : Geometry) (image : SectorMap) : Type 0 where
  pub has_geometry : the_geometry p.version p.sectors p.inodes ≡ Some p
  pub super : image 0 ≡ super_bytes (super_for p)
  pub commit : image 1 ≡ commit_bytes []
  pub tables : HasWholeTables p image
  pub inode_bits : (n : ℕ) → n < inode_map_bits p → bit image p.inode_bitmap n ≡ (nat_eq n 0 || nat_le p.inodes n || nat_eq n root)
  pub block_bits : (s : ℕ) → s < map_bits p → IsTrue (bit image p.block_bitmap s) ↔ ((s < p.first_data) ⊎ (p.sectors ≤ s))
  pub root_is : stored p image root ≡ inode_bytes root_inode
  pub free : (n : ℕ) → n < p.inodes → n ≢ root → stored p image n ≡ inode_bytes free_inode
