-- A tree as it stands on a disk.
--     HoldsTree        a map of sectors holds a tree
--     IsThere        something stands at a number
--     HasAccess        what an access decision reads of an inode
use Rattle.std.specs.Prelude.{◌≡◌, ℕ, IsTrue, is_some}
use Rattle.fs_cred.specs.declared.node.Node.{Node as AccessNode}
use Rattle.fs_cred.specs.declared.node.NodeKind.{NodeKind}
use Rattle.fs_cred.specs.declared.node.NodeKind.TheVariants as nodes
use Rattle.fs_layout.specs.declared.inode.Inode.{Inode}
use Rattle.fs_layout.specs.declared.inode.Kind.{Kind}
use Rattle.fs_layout.specs.declared.inode.Kind.TheVariants as kinds
use Rattle.fs_layout.specs.declared.geometry.Geometry.{Geometry}
use Rattle.fs_layout.specs.Bytes.{SectorMap}
use Rattle.fs_model.specs.Stands.{HoldsAll, placed, room_of}
use Rattle.fs_model.specs.Trees.{Tree, node_at, IsTree}
use Rattle.inode_table.specs.Acls.{HasAcl}

-- each inode holds what the tree has at its number, and it is a tree of this disk
pub record HoldsTree (p : Geometry) (image : SectorMap) (t : Tree) : Type 0 where
  pub holds : HoldsAll p image (placed t)
  pub tree : IsTree (room_of p) t

-- something stands at the number
abbrev pub IsThere : Tree → ℕ → Type 0
IsThere t n = IsTrue (is_some (node_at t n))

-- the kind of an inode on which access is decided
abbrev pub stored_kind : NodeKind → Kind
stored_kind nodes.File = kinds.File
stored_kind nodes.Directory = kinds.Directory

-- the inode is that of a file or a directory, of which an access decision reads this
pub record HasAccess (image : SectorMap) (v : Inode) (node : AccessNode) : Type 0 where
  pub kind : v.kind ≡ stored_kind node.kind
  pub owner : v.uid ≡ node.owner
  pub group : v.gid ≡ node.group
  pub acl : HasAcl image v node.acl
