-- An image stands for a tree: our own layout.
--     HoldsAll        each inode holds what is placed at its number
--     placed        what a tree places at each number
--     room_with, room_of, room_in        the room of numbers in a version, of a disk, and of the disk in another version
--     Stands        the whole: of a disk of so many sectors the image stands for a tree, with so many free sectors
use Rattle.std.specs.Prelude.{◌≡◌, ℕ, ◌-◌, ◌<◌, nat_eq, nat_le, ◌||◌, Option, Some, is_some, MatchOption}
use Rattle.std.specs.Option.{option_map}
use Rattle.fs_layout.specs.declared.superblock.Super.{Super}
use Rattle.fs_layout.specs.declared.geometry.Geometry.{Geometry}
use Rattle.fs_layout.specs.declared.version.Version.{Version}
use Rattle.fs_layout.specs.Bytes.{SectorMap}
use Rattle.fs_layout.specs.Superblock.{super_bytes, FitsSuper}
use Rattle.fs_layout.specs.Inode.{free_inode}
use Rattle.fs_layout.specs.Version.{max_file_size, max_name, max_names, max_inode_names, slot_size, keeps_times}
use Rattle.fs_layout.specs.Geometry.{geometry_in}
use Rattle.fs_layout.specs.Images.{inode_map_bits, bit, inode_at, free_sectors}
use Rattle.fs_layout.specs.Ownership.{IsConsistent}
use Rattle.fs_layout.specs.Commit.{IsValidCommit}
use Rattle.fs_layout.specs.Recovered.{recovered}
use Rattle.fs_model.specs.Trees.{Tree, Room, node_at, names_of, parent, IsTree}
use Rattle.fs_model.specs.StoredNodes.{Placed, HoldsNode}

-- an inode holds the node that is placed at its number, or is free where none is
abbrev pub HoldsPlaced : Geometry → SectorMap → ℕ → Option Placed → Type 0
HoldsPlaced p image n o =
    MatchOption o (inode_at p image n ≡ free_inode) (λ x. HoldsNode p.version image (inode_at p image n) x)

-- Each inode holds what `what` has at its number, or is free. The inode bitmap says which are not; inode 0 isn't used.
pub record HoldsAll (p : Geometry) (image : SectorMap) (what : ℕ → Option Placed) : Type 0 where
  pub consistent : IsConsistent p image
  pub nodes : (n : ℕ) → n < p.inodes → HoldsPlaced p image n (what n)
  pub inode_bits : (n : ℕ) → n < inode_map_bits p → bit image p.inode_bitmap n ≡ (nat_eq n 0 || nat_le p.inodes n || is_some (what n))

-- what inode n is to hold for the tree
abbrev pub placed : Tree → ℕ → Option Placed
placed t n = option_map (λ node. record { node = node; names = names_of t n; parent = parent t n }) (node_at t n)

-- so many inodes and data sectors, with the limits of a version
abbrev pub room_with : Version → ℕ → ℕ → Room
room_with version inodes sectors = record {
  inodes = inodes;
  sectors = sectors;
  file_limit = max_file_size version;
  name_limit = max_name version;
  entries_limit = max_names version;
  names_limit = max_inode_names version;
  slot_size = slot_size version;
  keeps_times = keeps_times version;
}

-- the room of this disk
abbrev pub room_of : Geometry → Room
room_of p = room_with p.version p.inodes (p.sectors - p.first_data)

-- the room of a disk in another version
abbrev pub room_in : Version → Room → Room
room_in version room = room_with version room.inodes room.sectors

-- A sealed commit counts as if its targets were written. Log and free sectors may hold anything.
pub record Stands (sectors : ℕ) (image : SectorMap) (room : Room) (tree : Tree) (free : ℕ) : Type 0 where
  pub super : Super
  pub geometry : Geometry
  pub super_is : image 0 ≡ super_bytes super
  pub super_fits : FitsSuper super
  pub same_size : super.sectors ≡ sectors
  pub has_geometry : geometry_in super.version super.header sectors super.inodes ≡ Some geometry
  pub commit_is : IsValidCommit sectors image
  pub room_is : room ≡ room_of geometry
  pub holds : HoldsAll geometry (recovered sectors image) (placed tree)
  pub tree_is : IsTree room tree
  pub free_is : free ≡ free_sectors geometry (recovered sectors image)
