-- What a check says of a disk, which it only reads.
--     meaning        what a disk means: its recovered image
--     BeginsWith        the superblock gives the geometry, and the commit names this log area and has these targets
--     AreInodes, AreTested, IsOwnerMap, IsNameCount, IsNamedBy, IsNameTable        the tables of a check
--     HaveSizes, FindsLeast        the sizes of the tables; what a rule's test of them finds
--     IsReason, Passed        why a check gives no summary; it only reads, and has a reason
--     IsLeast, IsFirst        a finding of one rule; a finding
--     IsFailure, IsFailureOf        the same of a map of sectors
--     CountsTree, IsClean        the summary counts a tree; the disk stands for a tree that it counts
use Rattle.std.specs.Prelude.{◌≡◌, ℕ, ◌<◌, ◌≤◌, List, length, get_or, Bool, false, not, ◌&&◌, ◌==◌, ◌-◌, count_by, drop, Option, MatchOption, Result, IfErr, IsTrue, ◌↔◌}
use Rattle.fs_layout.specs.declared.inode.Inode.{Inode}
use Rattle.fs_layout.specs.declared.geometry.Geometry.{Geometry}
use Rattle.fs_layout.specs.Bytes.{SectorMap}
use Rattle.fs_layout.specs.Commit.{IsCommit, named_area}
use Rattle.fs_layout.specs.Inode.{free_inode}
use Rattle.fs_layout.specs.Images.{inode_at}
use Rattle.fs_layout.specs.Ownership.{IsOwned}
use Rattle.fs_layout.specs.Recovered.{recovered}
use Rattle.sector_disk.specs.Disk.{DiskState, OnlyReads, HasFailed, sector}
use Rattle.fs_model.specs.Trees.{Tree, Room, free_inodes}
use Rattle.fs_model.specs.Stands.{Stands}
use Rattle.fs_model.specs.Rules.{IsGeometryOf, namings_in, namings, is_directory_kind, ImageRule, rule_number, ObeysEach, ObeysBefore, IsLeastFailure, IsFinding}
use Rattle.fs_model.specs.Summaries.{named_files, nameless_files, directories, links, is_sealed, is_file_kind, is_link_kind, is_used, some_target}
use Rattle.fs_check.specs.declared.faults.CheckFault.{CheckFault}
use Rattle.fs_check.specs.declared.faults.CheckFault.TheVariants.{Found, DiskFault, OutOfMemory}
use Rattle.fs_check.specs.declared.faults.Summary.{Summary}

-- ---- what is read

-- what a disk means, as recovery would leave it
abbrev pub meaning : DiskState → SectorMap
meaning disk = recovered disk.size (sector disk.seen)

-- the superblock gives this geometry, and the commit is valid, names this log area and has these targets
pub record BeginsWith (disk : DiskState) (p : Geometry) (area : ℕ) (targets : List ℕ) : Type 0 where
  pub geometry : IsGeometryOf disk.size (sector disk.seen) p
  pub log : area ≡ named_area (sector disk.seen)
  pub commit : IsCommit disk.size (sector disk.seen) targets

-- all inodes of the image, but for free ones at the end
pub record AreInodes (p : Geometry) (m : SectorMap) (inodes : List Inode) : Type 0 where
  pub len : length inodes ≤ p.inodes
  pub each : (n : ℕ) → n < p.inodes → get_or inodes n free_inode ≡ inode_at p m n

-- the inodes of an image that obeys the rules before k
pub record AreTested (p : Geometry) (m : SectorMap) (k : ℕ) (inodes : List Inode) : Type 0 where
  pub table : AreInodes p m inodes
  pub before : ObeysBefore p m k

-- which sectors are owned
pub record IsOwnerMap (p : Geometry) (m : SectorMap) (owned : List Bool) : Type 0 where
  pub len : length owned ≡ p.sectors
  pub each : (s : ℕ) → s < p.sectors → IsTrue (get_or owned s false) ↔ IsOwned p m s

-- how many slots name each inode
pub record IsNameCount (p : Geometry) (m : SectorMap) (counts : List ℕ) : Type 0 where
  pub len : length counts ≡ p.inodes
  pub each : (n : ℕ) → n < p.inodes → get_or counts n 0 ≡ namings p m n

-- directory d has a slot that names n
abbrev pub IsNamedBy : Geometry → SectorMap → ℕ → ℕ → Type 0
IsNamedBy p m d n = (d < p.inodes) × (1 ≤ namings_in p.version m (inode_at p m d) n)

-- how often each inode is named, and for each one that is named a directory that names it
pub record IsNameTable (p : Geometry) (m : SectorMap) (counts directories : List ℕ) : Type 0 where
  pub counted : IsNameCount p m counts
  pub len : length directories ≡ p.inodes
  pub named_by : (n : ℕ) → n < p.inodes → 1 ≤ namings p m n → IsNamedBy p m (get_or directories n 0) n

-- the sizes of the tables
pub record HaveSizes (p : Geometry) (inodes : List Inode) (counts directories : List ℕ) : Type 0 where
  pub few : length inodes ≤ p.inodes
  pub counts_len : length counts ≡ p.inodes
  pub directories_len : length directories ≡ p.inodes

-- what a test of a rule finds in the tables of an image that obeys the rules before: the least number that fails it, if one does
abbrev pub FindsLeast : ImageRule → Geometry → List Inode → List ℕ → List ℕ → Option ℕ → Type 0
FindsLeast r p inodes counts directories first = (m : SectorMap) → AreInodes p m inodes → IsNameTable p m counts directories
    → ObeysBefore p m (rule_number r) → MatchOption first (ObeysEach p m r) (λ n. IsLeastFailure p m r n)

-- ---- what is answered

-- why a check gives no summary
abbrev pub IsReason : (DiskState → ℕ → ℕ → Type 0) → DiskState → DiskState → CheckFault → Type 0
IsReason IsIt old new (Found f) = IsIt old f.rule f.at
IsReason IsIt old new DiskFault = HasFailed old new
IsReason IsIt old new OutOfMemory = Unit {0}

-- a part of a check: it only reads, and has a reason where it ends the check
pub record Passed {T : Type 0} (IsIt : DiskState → ℕ → ℕ → Type 0) (old new : DiskState) (result : Result T CheckFault) : Type 0 where
  pub reads : OnlyReads old new
  pub reason : IfErr result (IsReason IsIt old new)

-- one rule fails, and not at a lower number
abbrev pub IsLeast : Geometry → ImageRule → DiskState → ℕ → ℕ → Type 0
IsLeast p r disk rule at = (rule ≡ rule_number r) × IsLeastFailure p (meaning disk) r at

-- The first rule that fails, at its least number.
abbrev pub IsFirst : DiskState → ℕ → ℕ → Type 0
IsFirst disk rule at = IsFinding disk.size (sector disk.seen) rule at

-- a rule that fails, where those before it hold, at its least number
pub record IsFailure (p : Geometry) (m : SectorMap) (rule at : ℕ) : Type 0 where
  pub of : ImageRule
  pub number : rule ≡ rule_number of
  pub before : ObeysBefore p m (rule_number of)
  pub least : IsLeastFailure p m of at

-- a rule that fails so, as the reason of a fault, which no device gives
abbrev pub IsFailureOf : Geometry → SectorMap → CheckFault → Type 0
IsFailureOf p m (Found f) = IsFailure p m f.rule f.at
IsFailureOf p m DiskFault = ⊥
IsFailureOf p m OutOfMemory = Unit {0}

-- no rule is said to fail
abbrev pub IsNone : DiskState → ℕ → ℕ → Type 0
IsNone disk rule at = ⊥

-- the summary counts the tree that the disk stands for
pub record CountsTree (disk : DiskState) (room : Room) (t : Tree) (free : ℕ) (s : Summary) : Type 0 where
  pub files : s.files ≡ named_files t
  pub dirs : s.dirs ≡ directories t
  pub link_count : s.links ≡ links t
  pub nameless : s.nameless ≡ nameless_files t
  pub blocks : s.blocks ≡ free
  pub inodes : s.inodes ≡ free_inodes room t
  pub pending : s.pending ≡ is_sealed disk.size (sector disk.seen)

-- what a summary counts of the tables
pub record IsCounted (p : Geometry) (targets : List ℕ) (inodes : List Inode) (owned : List Bool) (s : Summary) : Type 0 where
  pub files : s.files ≡ count_by (λ v. is_file_kind v.kind && not (v.names == 0)) inodes
  pub dirs : s.dirs ≡ count_by (λ v. is_directory_kind v.kind) inodes
  pub link_count : s.links ≡ count_by (λ v. is_link_kind v.kind) inodes
  pub nameless : s.nameless ≡ count_by (λ v. is_file_kind v.kind && v.names == 0) inodes
  pub blocks : s.blocks ≡ count_by not (drop p.first_data owned)
  pub free : s.inodes ≡ p.inodes - 1 - count_by (λ v. is_used v.kind) inodes
  pub pending : s.pending ≡ some_target targets

-- The disk stands for a tree, which the summary counts.
abbrev pub IsClean : DiskState → Summary → Type 0
IsClean disk s = (room : Room) × (t : Tree) × (free : ℕ) × Stands disk.size (sector disk.seen) room t free × CountsTree disk room t free s
