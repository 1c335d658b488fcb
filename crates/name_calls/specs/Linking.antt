-- What one more name for what is no directory asks.
--     source_asked        asked of what the first path leads to
--     place_asked        asked of a directory that gets a name
--     MayLink        a name that it may get
--     MayLinkAt        that which was found
use Rattle.std.specs.Prelude.{◌≡◌, ℕ, ◌<◌, ◌≤◌, not, ◌&&◌, List, [], ◌∷◌, length, None, Some, IsFalse}
use Rattle.fs_cred.specs.declared.errno.Errno.TheVariants.{EPERM, ENOTDIR}
use Rattle.fs_cred.specs.Credentials.{Credential}
use Rattle.fs_layout.specs.declared.geometry.Geometry.{Geometry}
use Rattle.fs_layout.specs.Bytes.{SectorMap, IsBytes}
use Rattle.fs_layout.specs.Directories.{IsName}
use Rattle.fs_layout.specs.Images.{free_sectors}
use Rattle.fs_layout.specs.Maps.{name_cmp, get}
use Rattle.fs_layout.specs.Version.{max_name, max_names, max_inode_names}
use Rattle.fs_model.specs.declared.walk.Found.{Found}
use Rattle.fs_model.specs.Births.{the_node}
use Rattle.fs_model.specs.Demands.{Demand, refuse, permission_on, write_and_search}
use Rattle.fs_model.specs.Limits.{least_free}
use Rattle.fs_model.specs.NameCalls.{link_count_demand}
use Rattle.fs_model.specs.Nodes.{Node, is_directory, names_of_body}
use Rattle.fs_model.specs.Scenes.{is_found, found_ino, must_be_there}
use Rattle.fs_model.specs.States.{State}
use Rattle.fs_model.specs.Trees.{Tree, node_at, names_of, IsDirectoryAt}
use Rattle.call_parts.specs.Makings.{room_asked}

-- asked of the first path and of what it leads to
abbrev pub source_asked : Tree → Found → List Demand
source_asked t f =
    must_be_there f
    ∷ refuse ENOTDIR (f.slash && (is_found f && not (is_directory (the_node t (found_ino f)).body)))
    ∷ refuse EPERM (is_found f && is_directory (the_node t (found_ino f)).body)
    ∷ []

-- asked of the directory of the second path, for what has so many names
abbrev pub place_asked : Geometry → SectorMap → Credential → Tree → ℕ → ℕ → ℕ → List Demand
place_asked p map cred t dir_ino step names =
    permission_on cred t dir_ino write_and_search 2 step ∷ link_count_demand (max_inode_names p.version) names ∷ room_asked p map t dir_ino

-- the name is new in directory dir, there is room for it, and n is no directory and has room for one more name
pub record MayLink (p : Geometry) (map : SectorMap) (t : Tree) (dir_ino : ℕ) (name : List ℕ) (n : ℕ) : Type 0 where
  pub directory : IsDirectoryAt t dir_ino
  pub is_name : IsName name
  pub short : length name ≤ max_name p.version
  pub bytes : IsBytes name
  pub is_new : get name_cmp (names_of_body directory.node.body) name ≡ None
  pub has_room : length (names_of_body directory.node.body) < max_names p.version
  pub enough : least_free ≤ free_sectors p map
  pub target : Node
  pub there : node_at t n ≡ Some target
  pub no_directory : IsFalse (is_directory target.body)
  pub few : names_of t n < max_inode_names p.version

-- n may get the name that was found
abbrev pub MayLinkAt : Geometry → SectorMap → Found → ℕ → State → Type 0
MayLinkAt p map f n s = MayLink p map s.tree f.dir_ino f.name n
