-- What a call makes of the bytes that an inode holds.
--     AllowsSize        the sizes that an inode of a kind may have
--     ChangesContent        what each call leaves alone
use Rattle.std.specs.Prelude.{◌≡◌, ℕ, ◌%◌, ◌≤◌}
use Rattle.fs_layout.specs.declared.slot.TheConstants.{SLOT_SIZE}
use Rattle.fs_layout.specs.declared.inode.TheConstants.{MAX_DIRECTORY_SIZE, MAX_LINK_SIZE}
use Rattle.fs_layout.specs.declared.inode.Inode.{Inode}
use Rattle.fs_layout.specs.declared.inode.Kind.{Kind}
use Rattle.fs_layout.specs.declared.inode.Kind.TheVariants.{Free, File, Directory, Link}
use Rattle.fs_layout.specs.declared.geometry.Geometry.{Geometry}
use Rattle.fs_layout.specs.Images.{bit, inode_at}
use Rattle.sector_txn.specs.Sectors.{TxnState}
use Rattle.bit_alloc.specs.Inodes.{IsSound, Touches, KeepsFields, KeepsAcls}

-- a used inode of this kind may have this size in the version that allows most, if it is within the limit of files
abbrev pub AllowsSize : Kind → ℕ → Type 0
AllowsSize Free size = ⊥
AllowsSize File size = Unit {0}
AllowsSize Directory size = (size ≤ MAX_DIRECTORY_SIZE) × (size % SLOT_SIZE ≡ 0)
AllowsSize Link size = (1 ≤ size) × (size ≤ MAX_LINK_SIZE)

-- Inode n was v and is w, with what it owns; its attributes, ACLs and its bit are the same. The map is sound again.
pub record ChangesContent (p : Geometry) (n taken more : ℕ) (old new : TxnState) (v w : Inode) : Type 0 where
  pub sound : IsSound p new
  pub touches : Touches p n taken more old new
  pub now : inode_at p new.sectors n ≡ w
  pub fields : KeepsFields v w
  pub acls : KeepsAcls old.sectors new.sectors v w
  pub used : bit new.sectors p.inode_bitmap n ≡ bit old.sectors p.inode_bitmap n
