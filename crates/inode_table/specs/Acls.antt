-- The ACLs of an inode.
--     HasAcl, HasDefaultAcl        an inode's access ACL and default ACL
--     with_acl_bits        an inode with the permission bits of an ACL
--     acl_takes, acls_take        how many sectors ACLs take
use Rattle.std.specs.Prelude.{◌≡◌, ℕ, zero, suc, ◌+◌, ◌*◌, ◌/◌, ◌%◌, Option, Some, None}
use Rattle.posix_acl.specs.AccessList.{AccessList, IsAcl, IsSomeAcl, mode_bits}
use Rattle.fs_layout.specs.declared.inode.Inode.{Inode}
use Rattle.fs_layout.specs.Bytes.{SectorMap}
use Rattle.fs_layout.specs.AclSector.{HoldsAcl, kept_acl}

-- The list is the inode's access ACL: in a sector where it is more than mode bits, and the mode shows its bits.
pub record HasAcl (image : SectorMap) (v : Inode) (a : AccessList) : Type 0 where
  pub valid : IsAcl a
  pub stored : HoldsAcl image v.acl (kept_acl a)
  pub bits : v.mode % 512 ≡ mode_bits a

-- the list, or none, is the inode's default ACL
pub record HasDefaultAcl (image : SectorMap) (v : Inode) (a : Option AccessList) : Type 0 where
  pub valid : IsSomeAcl a
  pub stored : HoldsAcl image v.default_acl a

-- the inode with the permission bits of the list in the low nine bits of its mode
abbrev pub with_acl_bits : Inode → AccessList → Inode
with_acl_bits v a = record v { mode = 512 * (v.mode / 512) + mode_bits a }

-- how many sectors an ACL takes where the inode has `sector` for it, or 0
abbrev pub acl_takes : ℕ → Option AccessList → ℕ
acl_takes sector None = 0
acl_takes zero (Some a) = 1
acl_takes (suc sector) (Some a) = 0

-- how many the ACLs of a new inode take
abbrev pub acls_take : AccessList → Option AccessList → ℕ
acls_take access default = acl_takes 0 (kept_acl access) + acl_takes 0 default
