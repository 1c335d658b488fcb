-- What an inode holds of a node, written from the node to the bytes: our own layout.
--     Placed        a node, how many names it has, and where it is named
--     HoldsFile, HoldsDirectory, HoldsLink, HoldsNode        one inode's node
use Rattle.std.specs.Prelude.{◌≡◌, ℕ, List}
use Rattle.posix_acl.specs.AccessList.{AccessList, IsAcl, IsSomeAcl}
use Rattle.fs_layout.specs.declared.inode.Kind.TheVariants as kinds
use Rattle.fs_layout.specs.declared.inode.Inode.{Inode}
use Rattle.fs_layout.specs.declared.version.Version.{Version}
use Rattle.fs_layout.specs.Bytes.{SectorMap}
use Rattle.fs_layout.specs.Images.{Holds, HasNoHole}
use Rattle.fs_layout.specs.Directories.{HasNames}
use Rattle.fs_layout.specs.AclSector.{HoldsAcl, kept_acl}
use Rattle.fs_model.specs.StoredStamps.{stamps_in}
use Rattle.fs_model.specs.Nodes.{Node, Body, File, Dir, Link, Directory, shown_mode}

pub record Placed : Type 0 where
  pub node : Node
  pub names : ℕ
  pub parent : ℕ

pub record HoldsFile (image : SectorMap) (v : Inode) (a : AccessList) (bytes : List ℕ) : Type 0 where
  pub kind : v.kind ≡ kinds.File
  pub holds : Holds image v bytes
  pub acl : IsAcl a
  pub has_acl : HoldsAcl image v.acl (kept_acl a)
  pub no_default : v.default_acl ≡ 0

pub record HoldsDirectory (version : Version) (image : SectorMap) (v : Inode) (a : AccessList) (d : Directory) : Type 0 where
  pub names : HasNames version image v d.names
  pub acl : IsAcl a
  pub default : IsSomeAcl d.default
  pub has_acl : HoldsAcl image v.acl (kept_acl a)
  pub has_default : HoldsAcl image v.default_acl d.default

pub record HoldsLink (image : SectorMap) (v : Inode) (target : List ℕ) : Type 0 where
  pub kind : v.kind ≡ kinds.Link
  pub holds : Holds image v target
  pub whole : HasNoHole image v
  pub no_acl : v.acl ≡ 0
  pub no_default : v.default_acl ≡ 0

abbrev pub HoldsBody : Version → SectorMap → Inode → Body → Type 0
HoldsBody version image v (File a bytes) = HoldsFile image v a bytes
HoldsBody version image v (Dir a d) = HoldsDirectory version image v a d
HoldsBody version image v (Link target) = HoldsLink image v target

-- what the names field and the parent field say
abbrev pub names_field : Body → ℕ → ℕ
names_field (File a bytes) names = names
names_field (Dir a d) names = 1
names_field (Link target) names = names

abbrev pub parent_field : Body → ℕ → ℕ
parent_field (File a bytes) parent = 0
parent_field (Dir a d) parent = parent
parent_field (Link target) parent = 0

pub record HoldsNode (version : Version) (image : SectorMap) (v : Inode) (x : Placed) : Type 0 where
  pub owner : v.uid ≡ x.node.owner
  pub group : v.gid ≡ x.node.group
  pub mode : v.mode ≡ shown_mode x.node.body
  pub names : v.names ≡ names_field x.node.body x.names
  pub parent : v.parent ≡ parent_field x.node.body x.parent
  pub stamps : stamps_in v ≡ x.node.stamps
  pub body : HoldsBody version image v x.node.body
