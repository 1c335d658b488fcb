-- Links.
--     IsNewLink        the attributes of a link that has just been made
--     HasNoAcls        an inode without ACLs, as each link is
use Rattle.std.specs.Prelude.{◌≡◌, ℕ}
use Rattle.fs_layout.specs.declared.inode.Inode.{Inode}
use Rattle.fs_layout.specs.declared.inode.Kind.TheVariants as kinds

-- a link with one name, this owner and this group, whose times are not known
pub record IsNewLink (owner group : ℕ) (v : Inode) : Type 0 where
  pub kind : v.kind ≡ kinds.Link
  pub mode : v.mode ≡ 0o777
  pub uid : v.uid ≡ owner
  pub gid : v.gid ≡ group
  pub names : v.names ≡ 1
  pub parent : v.parent ≡ 0
  pub mtime : v.mtime ≡ 0
  pub ctime : v.ctime ≡ 0
  pub atime : v.atime ≡ 0

-- neither ACL has a sector
pub record HasNoAcls (v : Inode) : Type 0 where
  pub acl : v.acl ≡ 0
  pub default : v.default_acl ≡ 0
