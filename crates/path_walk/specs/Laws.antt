-- What the inodes of a disk that holds a tree say of its nodes, each the contract of a function.
use Rattle.std.specs.Prelude.{◌≡◌, ℕ, ◌<◌, List, Some}
use Rattle.fs_cred.specs.declared.node.Node.{Node as AccessNode}
use Rattle.fs_layout.specs.declared.geometry.Geometry.{Geometry}
use Rattle.fs_layout.specs.Bytes.{SectorMap}
use Rattle.fs_layout.specs.Images.{inode_at, Holds}
use Rattle.fs_layout.specs.Directories.{HasNames}
use Rattle.fs_model.specs.Demands.{accessed_at}
use Rattle.fs_model.specs.Nodes.{Node, Link, is_directory, names_of_body}
use Rattle.fs_model.specs.Rules.{is_directory_kind}
use Rattle.fs_model.specs.StoredNodes.{HoldsNode}
use Rattle.fs_model.specs.Trees.{Tree, node_at, names_of, parent, IsDirectoryAt}
use Rattle.path_walk.specs.HeldTrees.{HoldsTree, IsThere, HasAccess}
use Rattle.path_walk.specs.SoundInodes.{HasSoundInodes}

-- What stands at a number has it below the count of inodes,
abbrev pub NumbersAreBelow : Type 0
NumbersAreBelow = (p : Geometry) (image : SectorMap) (t : Tree) (n : ℕ) → HoldsTree p image t → IsThere t n → n < p.inodes

-- and its inode holds it.
abbrev pub NodesAreHeld : Type 0
NodesAreHeld =
    (p : Geometry) (image : SectorMap) (t : Tree) (n : ℕ) (node : Node) → HoldsTree p image t → node_at t n ≡ Some node
    → HoldsNode p.version image (inode_at p image n) (record { node = node; names = names_of t n; parent = parent t n })

-- The inode says which is a directory,
abbrev pub KindsAreHeld : Type 0
KindsAreHeld =
    (p : Geometry) (image : SectorMap) (t : Tree) (n : ℕ) (node : Node) → HoldsTree p image t → node_at t n ≡ Some node
    → is_directory_kind (inode_at p image n).kind ≡ is_directory node.body

-- what its names are, and which is its parent;
abbrev pub DirectoriesAreHeld : Type 0
DirectoriesAreHeld =
    (p : Geometry) (image : SectorMap) (t : Tree) (n : ℕ) → HoldsTree p image t → (d : IsDirectoryAt t n)
    → HasNames p.version image (inode_at p image n) (names_of_body d.node.body) × ((inode_at p image n).parent ≡ parent t n)

-- of a file or a directory what access is decided on;
abbrev pub AccessIsHeld : Type 0
AccessIsHeld =
    (p : Geometry) (image : SectorMap) (t : Tree) (n : ℕ) (x : AccessNode) → HoldsTree p image t → accessed_at t n ≡ Some x
    → HasAccess image (inode_at p image n) x

-- and of a symbolic link its target.
abbrev pub TargetsAreHeld : Type 0
TargetsAreHeld =
    (p : Geometry) (image : SectorMap) (t : Tree) (n : ℕ) (node : Node) (target : List ℕ) → HoldsTree p image t → node_at t n ≡ Some node
    → node.body ≡ Link target → Holds image (inode_at p image n) target

-- So its inodes are as a walk asks.
abbrev pub InodesAreSound : Type 0
InodesAreSound = (p : Geometry) (image : SectorMap) (t : Tree) → HoldsTree p image t → HasSoundInodes p image
