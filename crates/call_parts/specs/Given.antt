-- What a call leaves of the inode that it changes.
--     ChangesOne        one inode
--     ChangesNames        the names of a directory
--     GivesOwner        another owner and group
--     special_mode, SavesAcl        another mode or access ACL
--     SavesDefaultAcl        another default ACL
--     SavesOf        an ACL of either type
--     size_shown, HasBody        what a call shows of an inode
use Rattle.std.specs.Prelude.{◌≡◌, ℕ, ◌+◌, ◌/◌, ◌%◌, ◌==◌, ◌<◌, ◌^◌, ◌&&◌, ◌*◌, cond, if◌then◌else◌, List, Option, Some, IsFalse}
use Rattle.posix_acl.specs.AccessList.{AccessList}
use Rattle.fs_cred.specs.Credentials.{Credential}
use Rattle.fs_cred.specs.Ownership.{keeps_set_group_id}
use Rattle.fs_layout.specs.declared.inode.TheConstants.{S_ISGID, S_ISVTX}
use Rattle.fs_layout.specs.declared.inode.Kind.{Kind}
use Rattle.fs_layout.specs.declared.inode.Kind.TheVariants.{Directory}
use Rattle.fs_layout.specs.declared.geometry.Geometry.{Geometry}
use Rattle.fs_layout.specs.declared.version.Version.{Version}
use Rattle.fs_layout.specs.declared.slot.TheConstants.{SLOT_SIZE}
use Rattle.fs_layout.specs.Version.{slot_size}
use Rattle.fs_layout.specs.Bytes.{SectorMap}
use Rattle.fs_layout.specs.InodeChanges.{ChangesInode}
use Rattle.fs_layout.specs.Directories.{HasNames}
use Rattle.fs_layout.specs.Images.{bit, inode_at}
use Rattle.fs_layout.specs.declared.inode.Inode.{Inode}
use Rattle.fs_model.specs.declared.call.AclType.{AclType}
use Rattle.fs_model.specs.declared.call.AclType.TheVariants.{Access, Default}
use Rattle.fs_model.specs.Nodes.{Body, is_link, shown_mode}
use Rattle.fs_model.specs.Rules.{is_directory_kind}
use Rattle.fs_model.specs.StoredNodes.{HoldsBody}
use Rattle.bit_alloc.specs.Inodes.{KeepsFields, KeepsBytes, KeepsAccess, KeepsDefault, KeepsAcls}
use Rattle.inode_table.specs.Acls.{HasAcl, HasDefaultAcl, with_acl_bits}

-- inode n, and no other, and it stays used or unused
pub record ChangesOne (p : Geometry) (n : ℕ) (old new : SectorMap) : Type 0 where
  pub super : new 0 ≡ old 0
  pub inode : ChangesInode p n old new
  pub used : bit new p.inode_bitmap n ≡ bit old p.inode_bitmap n

-- directory dir has other names, which f makes of those that it had, and is else as it was
pub record ChangesNames (p : Geometry) (dir_ino : ℕ) (f : List (List ℕ × ℕ) → List (List ℕ × ℕ)) (old new : SectorMap) : Type 0 where
  pub super : new 0 ≡ old 0
  pub change : ChangesInode p dir_ino old new
  pub used : bit new p.inode_bitmap dir_ino ≡ bit old p.inode_bitmap dir_ino
  pub kept : KeepsFields (inode_at p old dir_ino) (inode_at p new dir_ino)
  pub acls : KeepsAcls old new (inode_at p old dir_ino) (inode_at p new dir_ino)
  pub named : (names : List (List ℕ × ℕ)) → HasNames p.version old (inode_at p old dir_ino) names → HasNames p.version new (inode_at p new dir_ino) (f names)

-- inode n has another owner and group, and all else that it had
pub record GivesOwner (p : Geometry) (n uid gid : ℕ) (old new : SectorMap) : Type 0 where
  pub one : ChangesOne p n old new
  pub saved : inode_at p new n ≡ record (inode_at p old n) { uid = uid; gid = gid }
  pub uid_fits : uid < 2 ^ 32
  pub gid_fits : gid < 2 ^ 32
  pub bytes : KeepsBytes old new (inode_at p old n) (inode_at p new n)
  pub acls : KeepsAcls old new (inode_at p old n) (inode_at p new n)

-- of a mode that chmod() gives the bits above the permission bits: a directory's S_ISVTX, and S_ISGID where the caller may
abbrev pub special_mode : Credential → Kind → ℕ → ℕ → ℕ
special_mode cred Directory group mode =
    cond (mode / S_ISVTX % 2 == 1) S_ISVTX 0 + cond (mode / S_ISGID % 2 == 1 && keeps_set_group_id cred group) S_ISGID 0
special_mode cred _ group mode = 0

-- inode n has this access ACL, and its mode the bits of m above the permission bits
pub record SavesAcl (p : Geometry) (n m : ℕ) (a : AccessList) (old new : SectorMap) : Type 0 where
  pub one : ChangesOne p n old new
  pub fields : KeepsFields (with_acl_bits (record (inode_at p old n) { mode = m }) a) (inode_at p new n)
  pub bytes : KeepsBytes old new (inode_at p old n) (inode_at p new n)
  pub default : KeepsDefault old new (inode_at p old n) (inode_at p new n)
  pub access : HasAcl new (inode_at p new n) a

-- inode n has this default ACL, or none, and all else that it had
pub record SavesDefaultAcl (p : Geometry) (n : ℕ) (a : Option AccessList) (old new : SectorMap) : Type 0 where
  pub one : ChangesOne p n old new
  pub fields : KeepsFields (inode_at p old n) (inode_at p new n)
  pub bytes : KeepsBytes old new (inode_at p old n) (inode_at p new n)
  pub access : KeepsAccess old new (inode_at p old n) (inode_at p new n)
  pub default : HasDefaultAcl new (inode_at p new n) a

-- inode n has this ACL of this type
pub record SavesOf (which : AclType) (p : Geometry) (n m : ℕ) (acl : Option AccessList) (old new : SectorMap) : Type 0 where
  pub access : which ≡ Access → (a : AccessList) → acl ≡ Some a → SavesAcl p n m a old new
  pub default : which ≡ Default → SavesDefaultAcl p n acl old new

-- the size that is shown of an inode: of a directory as many bytes for each slot as the smallest slot has
abbrev pub size_shown : Version → Inode → ℕ
size_shown version v = if is_directory_kind v.kind then SLOT_SIZE * (v.size / slot_size version) else v.size

-- in this version the inode is that of a file or a directory with this body
pub record HasBody (version : Version) (image : SectorMap) (v : Inode) (b : Body) : Type 0 where
  pub no_link : IsFalse (is_link b)
  pub mode : v.mode ≡ shown_mode b
  pub held : HoldsBody version image v b
