-- What a change of one inode leaves, as calls need it.
--     ChangesBytes        what it holds is made another, and its attributes and ACLs stay
use Rattle.std.specs.Prelude.{◌≡◌, ℕ, List}
use Rattle.fs_layout.specs.declared.geometry.Geometry.{Geometry}
use Rattle.fs_layout.specs.Bytes.{SectorMap}
use Rattle.fs_layout.specs.InodeChanges.{ChangesInode}
use Rattle.fs_layout.specs.Images.{Holds, bit, inode_at}
use Rattle.bit_alloc.specs.Inodes.{KeepsFields, KeepsAcls}

pub record ChangesBytes (p : Geometry) (n : ℕ) (f : List ℕ → List ℕ) (old new : SectorMap) : Type 0 where
  pub super : new 0 ≡ old 0
  pub inode : ChangesInode p n old new
  pub fields : KeepsFields (inode_at p old n) (inode_at p new n)
  pub acls : KeepsAcls old new (inode_at p old n) (inode_at p new n)
  pub held : (held : List ℕ) → Holds old (inode_at p old n) held → Holds new (inode_at p new n) (f held)
  pub used : bit new p.inode_bitmap n ≡ bit old p.inode_bitmap n
