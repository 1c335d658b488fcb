-- The numbers of an inode and its last block, against its size.
--     last_block, last_bytes        the last block that the size needs, and how many bytes of it
--     HasSize        the sizes of kinds
--     AreNone, IsCut        there is no number of a level from one up to another; past those that the size needs, as far as one looks
--     FitsSize        all numbers go with the size
--     FitsLast        the content of the last block goes with the size
use Rattle.std.specs.Prelude.{◌≡◌, ◌≢◌, ℕ, suc, ◌+◌, ◌-◌, ◌*◌, ◌/◌, ◌%◌, ◌<◌, ◌≤◌, List, get_or}
use Rattle.fs_layout.specs.declared.inode.TheConstants.{SECTOR_POINTERS, MAX_FILE_SIZE, MAX_LINK_SIZE}
use Rattle.fs_layout.specs.declared.inode.Kind.TheVariants as kinds
use Rattle.fs_layout.specs.declared.inode.Inode.{Inode}
use Rattle.fs_layout.specs.Bytes.{SectorMap}
use Rattle.fs_layout.specs.Images.{own_count, number_on, IsTrimmed, HasNoHole}
use Rattle.fs_model.specs.Nodes.{numbers_for}

-- of an empty inode block 0
abbrev pub last_block : Inode → ℕ
last_block v = (v.size - 1) / 512

abbrev pub last_bytes : Inode → ℕ
last_bytes v = (v.size - 1) % 512 + 1

-- what a valid inode of the kind has
pub record HasSize (v : Inode) : Type 0 where
  pub most : v.size ≤ MAX_FILE_SIZE
  pub short : v.kind ≡ kinds.Link → v.size ≤ MAX_LINK_SIZE

-- no number of the level from `first` up to `end` is there
abbrev pub AreNone : SectorMap → Inode → ℕ → ℕ → ℕ → Type 0
AreNone m v level first end = (i : ℕ) → first ≤ i → i < end → number_on m v level i ≡ 0

-- no number of the level is there that the size doesn't need, as far as the inode and the sectors of pointers that it needs reach
abbrev pub IsCut : SectorMap → Inode → ℕ → Type 0
IsCut m v level = AreNone m v level (numbers_for level v.size) (own_count level + SECTOR_POINTERS * numbers_for (suc level) v.size)

-- all numbers go with the size
pub record FitsSize (m : SectorMap) (v : Inode) : Type 0 where
  pub trim : IsTrimmed m v
  pub whole : v.kind ≢ kinds.File → HasNoHole m v

-- past the size zeros, and of a link's target no zero
pub record FitsLast (v : Inode) (content : List ℕ) : Type 0 where
  pub rest : (i : ℕ) → last_bytes v ≤ i → i < 512 → get_or content i 0 ≡ 0
  pub target : v.kind ≡ kinds.Link → (i : ℕ) → i < last_bytes v → get_or content i 0 ≢ 0
