-- What a walk asks of the inodes of a disk, whatever tree they hold.
--     LeadsOn        what a directory's inode has
--     IsSoundInode        what an inode of each kind has
--     HasSoundInodes        each inode of the disk is such a one
use Rattle.std.specs.Prelude.{◌≡◌, ◌⊎◌, ℕ, ◌<◌, List, Some}
use Rattle.posix_acl.specs.AccessList.{AccessList}
use Rattle.fs_layout.specs.declared.inode.Inode.{Inode}
use Rattle.fs_layout.specs.declared.inode.Kind.TheVariants as kinds
use Rattle.fs_layout.specs.declared.geometry.Geometry.{Geometry}
use Rattle.fs_layout.specs.Bytes.{SectorMap}
use Rattle.fs_layout.specs.Directories.{HasNames}
use Rattle.fs_layout.specs.Images.{inode_at}
use Rattle.fs_layout.specs.Maps.{name_cmp, get}
use Rattle.inode_table.specs.Acls.{HasAcl}

-- names that lead to inodes of the disk, and a parent
pub record LeadsOn (p : Geometry) (image : SectorMap) (v : Inode) : Type 0 where
  pub names : List (List ℕ × ℕ)
  pub has : HasNames p.version image v names
  pub inside : (name : List ℕ) (n : ℕ) → get name_cmp names name ≡ Some n → n < p.inodes
  pub parent : v.parent < p.inodes

-- a directory leads on, and a file and a directory have an access ACL
pub record IsSoundInode (p : Geometry) (image : SectorMap) (v : Inode) : Type 0 where
  pub directory : v.kind ≡ kinds.Directory → LeadsOn p image v
  pub acl : (v.kind ≡ kinds.File) ⊎ (v.kind ≡ kinds.Directory) → (a : AccessList) × HasAcl image v a

abbrev pub HasSoundInodes : Geometry → SectorMap → Type 0
HasSoundInodes p image = (n : ℕ) → n < p.inodes → IsSoundInode p image (inode_at p image n)
