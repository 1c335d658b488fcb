-- The ACLs of a file or a directory, as its inode has them.
use Rattle.std.specs.Prelude.{◌≡◌, ◌≢◌, None, Some}
use Rattle.std.proofs.Common.{refl, sym, ◌∙◌}
use Rattle.posix_acl.specs.AccessList.{AccessList}
use Rattle.fs_layout.specs.declared.inode.Inode.{Inode}
use Rattle.fs_layout.specs.declared.inode.Kind.TheVariants as kinds
use Rattle.fs_layout.specs.declared.version.Version.{Version}
use Rattle.fs_layout.specs.Bytes.{SectorMap}
use Rattle.fs_model.specs.Nodes.{Body, File, Dir, Link, acl_in, default_in}
use Rattle.inode_table.specs.Acls.{HasAcl, HasDefaultAcl}
use Rattle.path_walk.proofs.HeldNodes.{access_says, default_says}
use Rattle.call_parts.specs.Given.{HasBody}

-- the access ACL of a file or a directory
pub record HasAccessAcl (image : SectorMap) (v : Inode) (b : Body) : Type 0 where
  pub acl : AccessList
  pub is : acl_in b ≡ Some acl
  pub has : HasAcl image v acl

pub has_access_acl : {version : Version} (image : SectorMap) (v : Inode) (b : Body) → HasBody version image v b → HasAccessAcl image v b
has_access_acl {version} image v (File a bytes) h =
    record { acl = a; is = refl; has = (access_says version image v v.uid v.gid (File a bytes) _ refl refl h.mode h.held refl).acl }
has_access_acl {version} image v (Dir a d) h =
    record { acl = a; is = refl; has = (access_says version image v v.uid v.gid (Dir a d) _ refl refl h.mode h.held refl).acl }
has_access_acl {version} image v (Link target) h = absurd (let e = h.no_link in cc)

-- the default ACL of a directory
pub default_of_directory : {version : Version} (image : SectorMap) (v : Inode) (b : Body) → HasBody version image v b → v.kind ≡ kinds.Directory → HasDefaultAcl image v (default_in b)
default_of_directory {version} image v (File a bytes) h is = absurd (let e : kinds.File ≡ kinds.Directory = sym h.held.kind ∙ is in cc)
default_of_directory {version} image v (Dir a d) h is = default_says version image v (Dir a d) refl h.held
default_of_directory {version} image v (Link target) h is = absurd (let e : kinds.Link ≡ kinds.Directory = sym h.held.kind ∙ is in cc)

pub no_default : {version : Version} (image : SectorMap) (v : Inode) (b : Body) → HasBody version image v b → v.kind ≢ kinds.Directory → None ≡ default_in b
no_default {version} image v (File a bytes) h other = refl
no_default {version} image v (Dir a d) h other = absurd (other h.held.names.kind)
no_default {version} image v (Link target) h other = refl
