-- The states of a commit: what the disk shows, and that a stop leaves no more than this.
use Rattle.std.specs.Prelude.{ℕ, ◌≡◌, ◌⊎◌, ◌≤◌, ◌<◌, ◌+◌, ◌*◌, ◌/◌, ◌%◌, ◌^◌, List, [], length, get_or, Contains}
use Rattle.fs_layout.specs.declared.commit.TheConstants.{MAX_TARGETS, HEADER_TARGETS}
use Rattle.fs_layout.specs.declared.header.TheConstants.{LEAST_LOG_END}
use Rattle.fs_layout.specs.declared.geometry.TheConstants.{COMMIT_SECTOR}
use Rattle.fs_layout.specs.Bytes.{u32_of}
use Rattle.fs_layout.specs.Header.{header_of, area_start, next_area}
use Rattle.fs_layout.specs.declared.header.TheConstants.{MAX_HEADER}
use Rattle.fs_layout.specs.Commit.{AreTargets, IsCommit, named_start}
use Rattle.sector_disk.specs.Disk.{DiskState, Image, sector, IsStable}
use Rattle.redo_journal.specs.Batch.{Entry, targets, target_at, content_at}

-- how many header sectors an image has
abbrev pub header_at : Image → ℕ
header_at image = header_of (sector image 0)

-- the first content of the log area that an image's commit sector names
abbrev pub log_at : Image → ℕ
log_at image = named_start (sector image) + header_at image

-- the area that the next commit is logged in
abbrev pub next_at : Image → ℕ
next_at image = next_area (header_at image) (u32_of (sector image COMMIT_SECTOR) 4)

-- the next commit of a disk is logged in this area
abbrev pub HasNext : ℕ → DiskState → Type 0
HasNext area disk = area ≡ next_at disk.seen

-- a disk has so many header sectors
pub record HasHeader (header : ℕ) (disk : DiskState) : Type 0 where
  pub is : header ≡ header_at disk.seen
  pub most : header ≤ MAX_HEADER

-- all is stable, and the commit sector has these targets
pub record IsAtRest (sectors : List ℕ) (disk : DiskState) : Type 0 where
  pub room : LEAST_LOG_END ≤ disk.size
  pub small : disk.size < 2 ^ 32
  pub whole : length disk.seen ≡ disk.size
  pub stable : IsStable disk
  pub commit : IsCommit disk.size (sector disk.seen) sectors

-- no commit is under way
abbrev pub IsIdle : DiskState → Type 0
IsIdle disk = IsAtRest [] disk

-- each of these sectors has the content that the log, from this sector on, has for it
abbrev pub HasReplayed : ℕ → List ℕ → (ℕ → List ℕ) → Image → Type 0
HasReplayed from sectors log image = (k : ℕ) → k < length sectors → sector image (get_or sectors k 0) ≡ log (from + k)

-- a commit is there, and its targets have the log's contents. A stop may leave anything in the targets, and elsewhere only
-- what reads give
pub record IsInPlace (sectors : List ℕ) (disk : DiskState) : Type 0 where
  pub room : LEAST_LOG_END ≤ disk.size
  pub small : disk.size < 2 ^ 32
  pub whole : length disk.seen ≡ disk.size
  pub stable : (n : ℕ) (content : List ℕ) → n < disk.size → disk.may_hold n content → (content ≡ sector disk.seen n) ⊎ Contains sectors n
  pub commit : IsCommit disk.size (sector disk.seen) sectors
  pub in_place : HasReplayed (log_at disk.seen) sectors (sector disk.seen) disk.seen

-- between two commits: where the log has two areas the last one stays, its targets written; else the commit sector is idle, and all is stable
pub record IsReady (disk : DiskState) : Type 0 where
  pub sectors : List ℕ
  pub is : IsInPlace sectors disk
  pub alone : header_at disk.seen ≡ 0 → length sectors ≡ 0

-- the header, from this sector on, has the batch's sectors that the commit sector has no room for
abbrev pub HoldsHeader : ℕ → List Entry → Image → Type 0
HoldsHeader from entries image = (k : ℕ) → MAX_TARGETS + k < length entries
    → u32_of (sector image (from + k / HEADER_TARGETS)) (4 * (k % HEADER_TARGETS)) ≡ target_at entries (MAX_TARGETS + k)

-- the log, from this sector on, has the batch's contents
abbrev pub HoldsLog : ℕ → List Entry → Image → Type 0
HoldsLog from entries image = (k : ℕ) → k < length entries → sector image (from + k) ≡ content_at entries k

-- the batch is in the log, and its commit isn't there
pub record IsLogged (entries : List Entry) (disk : DiskState) : Type 0 where
  pub valid : AreTargets (header_at disk.seen) disk.size (targets entries)
  pub ready : IsReady disk
  pub stable : 0 < length entries → IsStable disk
  pub header : HoldsHeader (area_start (header_at disk.seen) (next_at disk.seen)) entries disk.seen
  pub log : HoldsLog (area_start (header_at disk.seen) (next_at disk.seen) + header_at disk.seen) entries disk.seen

-- the batch is in the log, and its commit is there; an empty one isn't
pub record IsSealed (entries : List Entry) (disk : DiskState) : Type 0 where
  pub none : length entries ≡ 0 → IsReady disk
  pub at_rest : 0 < length entries → IsAtRest (targets entries) disk
  pub log : HoldsLog (log_at disk.seen) entries disk.seen

-- the batch's sectors have its contents
abbrev pub HoldsTargets : List Entry → Image → Type 0
HoldsTargets entries image = (k : ℕ) → k < length entries → sector image (target_at entries k) ≡ content_at entries k

-- a commit is there, its targets have the log's contents, and all is stable
pub record IsInstalled (sectors : List ℕ) (disk : DiskState) : Type 0 where
  pub at_rest : IsAtRest sectors disk
  pub in_place : HasReplayed (log_at disk.seen) sectors (sector disk.seen) disk.seen

-- ---- what the steps may write, and where
-- any content in the sectors of a log area
abbrev pub InLog : ℕ → ℕ → ℕ → List ℕ → Type 0
InLog header area n content = (area_start header area ≤ n) × (n < area_start header area + 126 + 129 * header)

-- none of these sectors is a target of the commit that stands
abbrev pub IsBeside : List ℕ → DiskState → Type 0
IsBeside sectors disk = (ts : List ℕ) (n : ℕ) → IsCommit disk.size (sector disk.seen) ts → Contains sectors n → Contains ts n → ⊥

-- this sector isn't a target of it
abbrev pub IsNoTarget : DiskState → ℕ → Type 0
IsNoTarget disk n = (ts : List ℕ) → IsCommit disk.size (sector disk.seen) ts → Contains ts n → ⊥

-- the commit that stands has no targets but these
abbrev pub StandsIn : List ℕ → DiskState → Type 0
StandsIn sectors disk = (ts : List ℕ) (n : ℕ) → IsCommit disk.size (sector disk.seen) ts → Contains ts n → Contains sectors n

-- any content in one of these sectors
abbrev pub InTargets : List ℕ → ℕ → List ℕ → Type 0
InTargets sectors n content = Contains sectors n

-- any content in the sectors of a log area, or in one of these
abbrev pub InLogOr : ℕ → ℕ → List ℕ → ℕ → List ℕ → Type 0
InLogOr header area sectors n content = InLog header area n content ⊎ InTargets sectors n content
