-- What making something in a directory asks.
--     make_asked, room_asked        asked of a directory in which something is made, or gets a name
--     CanMake        a directory in which a name may be made
use Rattle.std.specs.Prelude.{◌≡◌, ◌≢◌, ℕ, ◌<◌, ◌≤◌, List, [], length, None, ◌==◌, nat_lt, nat_le, ◌∷◌}
use Rattle.fs_layout.specs.declared.geometry.Geometry.{Geometry}
use Rattle.fs_layout.specs.Bytes.{SectorMap}
use Rattle.fs_layout.specs.Directories.{IsName}
use Rattle.fs_layout.specs.Images.{free_sectors}
use Rattle.fs_layout.specs.Maps.{name_cmp, get}
use Rattle.bit_alloc.specs.declared.bitmap.Bitmap.TheVariants.{Inodes}
use Rattle.bit_alloc.specs.Bitmaps.{free_numbers}
use Rattle.fs_layout.specs.Version.{max_name, max_names}
use Rattle.fs_model.specs.Limits.{least_free}
use Rattle.fs_model.specs.Nodes.{names_of_body}
use Rattle.fs_model.specs.Trees.{Tree, IsDirectoryAt, free_inodes}
use Rattle.path_walk.specs.HeldTrees.{HoldsTree}
use Rattle.fs_cred.specs.declared.errno.Errno.TheVariants.{ENOSPC}
use Rattle.fs_cred.specs.Credentials.{Credential}
use Rattle.fs_model.specs.Births.{the_node}
use Rattle.fs_model.specs.Demands.{Demand, refuse, permission_on, write_and_search}
use Rattle.fs_model.specs.Stands.{room_of}

-- the name is new there, and there is room for it, for its inode and for their sectors
pub record CanMake (p : Geometry) (map : SectorMap) (t : Tree) (dir_ino : ℕ) (name : List ℕ) : Type 0 where
  pub holds : HoldsTree p map t
  pub directory : IsDirectoryAt t dir_ino
  pub is_name : IsName name
  pub short : length name ≤ max_name p.version
  pub is_new : get name_cmp (names_of_body directory.node.body) name ≡ None
  pub has_room : length (names_of_body directory.node.body) < max_names p.version
  pub some : free_numbers p Inodes map ≢ 0
  pub enough : least_free ≤ free_sectors p map

-- asked of a directory, to make something in it
abbrev pub make_asked : Geometry → SectorMap → Credential → Tree → ℕ → ℕ → List Demand
make_asked p map cred t dir_ino step =
    permission_on cred t dir_ino write_and_search 1 step
    ∷ refuse ENOSPC (nat_lt (free_sectors p map) least_free)
    ∷ refuse ENOSPC (free_inodes (room_of p) t == 0)
    ∷ refuse ENOSPC (nat_le (max_names p.version) (length (names_of_body (the_node t dir_ino).body)))
    ∷ []

-- sectors are left, and a slot in the directory
abbrev pub room_asked : Geometry → SectorMap → Tree → ℕ → List Demand
room_asked p map t dir_ino =
    refuse ENOSPC (nat_lt (free_sectors p map) least_free)
    ∷ refuse ENOSPC (nat_le (max_names p.version) (length (names_of_body (the_node t dir_ino).body))) ∷ []
