-- The slots of one directory, and the tables of names so far.
--     block_of_slot        the content of the block of a slot
--     AreValid, IsSlotIn, AreSlots        each slot of a directory is one; this is slot k, where it is one; and these are all of them
--     is_below        the bytewise order of names
--     IsUsable, HasGoodSlots        the inode of a slot is one that may be named; a directory obeys the rule on slots
--     naming, AddsSlots        how many slots of a list name an inode; the tables with the slots of one more directory
--     IsTally, IsRepeated, IsNaming        of the directories below a number: the tables, the first in which a name stands twice, both
use Rattle.std.specs.Prelude.{◌≡◌, ◌≢◌, ℕ, ◌+◌, ◌/◌, ◌<◌, ◌≤◌, ◌==◌, List, length, get_or, count_by, sum_by, Option, None, Some, MatchOption, Ok, Bool}
use Rattle.std.specs.List.{range_with_len}
use Rattle.std.specs.Ordering.{is_lt}
use Rattle.fs_layout.specs.Maps.{name_cmp}
use Rattle.fs_layout.specs.declared.inode.Kind.TheVariants.{Free}
use Rattle.fs_layout.specs.declared.inode.Inode.{Inode}
use Rattle.fs_layout.specs.declared.geometry.Geometry.{Geometry}
use Rattle.fs_layout.specs.declared.version.Version.{Version}
use Rattle.fs_layout.specs.Bytes.{SectorMap}
use Rattle.fs_layout.specs.Inode.{free_inode}
use Rattle.fs_layout.specs.Version.{block_slots}
use Rattle.fs_layout.specs.Images.{inode_at, pointer}
use Rattle.fs_layout.specs.Directories.{NamedInode, slot_count, stored_slot, slot_at, slot_of}
use Rattle.fs_model.specs.Limits.{root}
use Rattle.fs_model.specs.Rules.{IsGoodSlot, NamesApart, Obeys, IsLeastFailure, namings_in}
use Rattle.fs_check.specs.Checks.{IsNamedBy}

-- ---- one directory

-- the content of the block in which slot k of a directory stands
abbrev pub block_of_slot : Version → SectorMap → Inode → ℕ → List ℕ
block_of_slot version m v k = m (pointer m v (k / block_slots version))

abbrev pub AreValid : Version → SectorMap → Inode → Type 0
AreValid version m v = (k : ℕ) → k < slot_count version v → slot_of version (stored_slot version m v k) ≡ Ok (slot_at version m v k)

-- slot k of a directory, where it is valid
abbrev pub IsSlotIn : Version → SectorMap → Inode → ℕ → Option NamedInode → Type 0
IsSlotIn version m v k None = k < slot_count version v → AreValid version m v → ⊥
IsSlotIn version m v k (Some slot) = (slot_of version (stored_slot version m v k) ≡ Ok (slot_at version m v k)) × (slot ≡ slot_at version m v k)

-- the slots of a directory are valid, and this is the list of them
pub record AreSlots (version : Version) (m : SectorMap) (v : Inode) (slots : List NamedInode) : Type 0 where
  pub valid : AreValid version m v
  pub len : length slots ≡ slot_count version v
  pub each : (k : ℕ) (d : NamedInode) → k < slot_count version v → get_or slots k d ≡ slot_at version m v k

-- the slot's inode is one of the table, in use, and not the root
pub record IsUsable (inodes : List Inode) (x : NamedInode) : Type 0 where
  pub below : x.ino < length inodes
  pub used : (get_or inodes x.ino free_inode).kind ≢ Free
  pub not_root : x.ino ≢ root

abbrev pub HasGoodSlots : Geometry → SectorMap → Inode → Type 0
HasGoodSlots p m v = (k : ℕ) → k < slot_count p.version v → IsGoodSlot p m v k

-- the bytewise order of the names
abbrev pub is_below : NamedInode → NamedInode → Bool
is_below x y = is_lt (name_cmp x.name y.name)

-- how many of the slots name inode n
abbrev pub naming : ℕ → List NamedInode → ℕ
naming n slots = count_by (λ x. x.ino == n) slots

-- directory d's slots are added to the tables
pub record AddsSlots (d : ℕ) (slots : List NamedInode) (counts directories counts' directories' : List ℕ) : Type 0 where
  pub counts_len : length counts' ≡ length counts
  pub directories_len : length directories' ≡ length directories
  pub counted : (n : ℕ) → n < length counts → get_or counts' n 0 ≡ get_or counts n 0 + naming n slots
  pub named : (n : ℕ) → n < length directories → 1 ≤ naming n slots → get_or directories' n 0 ≡ d
  pub others : (n : ℕ) → naming n slots ≡ 0 → get_or directories' n 0 ≡ get_or directories n 0

-- ---- all directories

-- the tables of what the directories below a number name
pub record IsTally (p : Geometry) (m : SectorMap) (upto : ℕ) (counts directories : List ℕ) : Type 0 where
  pub counts_len : length counts ≡ p.inodes
  pub directories_len : length directories ≡ p.inodes
  pub counted : (n : ℕ) → n < p.inodes → get_or counts n 0 ≡ sum_by (λ d. namings_in p.version m (inode_at p m d) n) (range_with_len 0 upto)
  pub named_by : (n : ℕ) → n < p.inodes → 1 ≤ get_or counts n 0 → IsNamedBy p m (get_or directories n 0) n

-- the first directory in which a name stands twice, if there is one below a number
abbrev pub IsRepeated : Geometry → SectorMap → ℕ → Option ℕ → Type 0
IsRepeated p m upto first = MatchOption first ((d : ℕ) → d < upto → Obeys p m NamesApart d) (λ d. IsLeastFailure p m NamesApart d)

pub record IsNaming (p : Geometry) (m : SectorMap) (upto : ℕ) (counts directories : List ℕ) (first : Option ℕ) : Type 0 where
  pub tally : IsTally p m upto counts directories
  pub repeated : IsRepeated p m upto first
