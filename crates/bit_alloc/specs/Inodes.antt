-- What a call on one inode does, in the layout's words alone.
--     IsSound        a transaction's map on its disk
--     IsSectorFor, Touches        what each call on inode n puts, what it leaves alone, and what it takes
--     KeepsFields, KeepsBytes, KeepsAccess, KeepsDefault, KeepsAcls        what is the same of the inode
--     HoldsContent        a sector with this content, or none
--     IsBlank        an inode without sectors
use Rattle.std.specs.Prelude.{◌≡◌, ◌≢◌, ℕ, ◌+◌, ◌/◌, ◌≤◌, ◌<◌, List, Option, None, Some, replicate, ◌⊎◌}
use Rattle.fs_layout.specs.declared.inode.TheConstants.{DIRECT_BLOCKS, POINTER_LEVELS}
use Rattle.fs_layout.specs.declared.inode.Inode.{Inode}
use Rattle.fs_layout.specs.declared.inode.Kind.TheVariants as kinds
use Rattle.fs_layout.specs.declared.geometry.Geometry.{Geometry}
use Rattle.fs_layout.specs.Bytes.{SectorMap}
use Rattle.fs_layout.specs.Images.{IsData, Holds, HasNoHole, free_sectors}
use Rattle.fs_layout.specs.Ownership.{IsConsistent}
use Rattle.fs_layout.specs.InodeChanges.{ChangesInode}
use Rattle.sector_txn.specs.Sectors.{TxnState, PutsOnly}
use Rattle.bit_alloc.specs.Bitmaps.{HasBitmaps}
use Rattle.bit_alloc.specs.Room.{bitmaps}

-- the map is consistent and laid out on its disk, and the bits that are no number's are set
pub record IsSound (p : Geometry) (txn : TxnState) : Type 0 where
  pub consistent : IsConsistent p txn.sectors
  pub bitmaps : HasBitmaps p txn

-- a sector that a call on inode n may put: of a bitmap, the inode's, or of the data
abbrev pub IsSectorFor : Geometry → ℕ → ℕ → Type 0
IsSectorFor p n s = ((p.inode_bitmap ≤ s) × (s < p.table)) ⊎ ((s ≡ p.table + n / 4) ⊎ IsData p s)

-- Inode n changes with what it owns, and nothing else. At most so many free sectors were taken, and at most so many
-- sectors put besides bitmaps.
pub record Touches (p : Geometry) (n taken more : ℕ) (old new : TxnState) : Type 0 where
  pub puts : PutsOnly (IsSectorFor p n) (bitmaps p) more old new
  pub super : new.sectors 0 ≡ old.sectors 0
  pub inode : ChangesInode p n old.sectors new.sectors
  pub free : free_sectors p old.sectors ≤ free_sectors p new.sectors + taken

-- two inodes have the same attributes
pub record KeepsFields (v w : Inode) : Type 0 where
  pub kind : w.kind ≡ v.kind
  pub mode : w.mode ≡ v.mode
  pub uid : w.uid ≡ v.uid
  pub gid : w.gid ≡ v.gid
  pub names : w.names ≡ v.names
  pub parent : w.parent ≡ v.parent
  pub mtime : w.mtime ≡ v.mtime
  pub ctime : w.ctime ≡ v.ctime
  pub atime : w.atime ≡ v.atime

-- w holds in new what v holds in old
pub record KeepsBytes (old new : SectorMap) (v w : Inode) : Type 0 where
  pub bytes : (held : List ℕ) → Holds old v held → Holds new w held
  pub whole : HasNoHole old v → HasNoHole new w

-- two inodes have the same access ACL
pub record KeepsAccess (old new : SectorMap) (v w : Inode) : Type 0 where
  pub acl : w.acl ≡ v.acl
  pub acl_sector : v.acl ≢ 0 → new v.acl ≡ old v.acl

-- two inodes have the same default ACL
pub record KeepsDefault (old new : SectorMap) (v w : Inode) : Type 0 where
  pub default : w.default_acl ≡ v.default_acl
  pub default_sector : v.default_acl ≢ 0 → new v.default_acl ≡ old v.default_acl

-- both
pub record KeepsAcls (old new : SectorMap) (v w : Inode) : Type 0 where
  pub access : KeepsAccess old new v w
  pub default : KeepsDefault old new v w

-- the sector s has this content, or it is 0 and there is none
abbrev pub HoldsContent : SectorMap → ℕ → Option (List ℕ) → Type 0
HoldsContent image s None = s ≡ 0
HoldsContent image s (Some content) = (s ≢ 0) × (image s ≡ content)

-- an inode that is used, holds nothing and has no sector
pub record IsBlank (v : Inode) : Type 0 where
  pub used : v.kind ≢ kinds.Free
  pub size : v.size ≡ 0
  pub acl : v.acl ≡ 0
  pub default : v.default_acl ≡ 0
  pub direct : v.direct ≡ replicate DIRECT_BLOCKS 0
  pub indirect : v.indirect ≡ replicate POINTER_LEVELS 0
