-- A file that a disk is kept in: what it holds, what calls of it do, and how it follows the disk.
--     file_seen        what reads of the file give
--     IfKnown        what is known of a file stays known
--     IsRun, IsRunTried, HasRun        a run of sectors that is written
--     IsHeldNarrowed, IsHeldSynced        a sync
--     HasSectors, HasStable        what is read from it; what it has at first
--     HasCount, HasFirst        how many sectors it has
--     Lacks, KeepsFile, KeepsKnown        how it follows the disk
--     KeepsBefore, FollowsBefore        how its first sectors do
use Rattle.std.specs.Prelude.{◌≡◌, ◌⊎◌, ℕ, ◌+◌, ◌-◌, ◌<◌, ◌≤◌, Bool, true, List, length, min, Option, Some, None, IfSome, Contains}
use Rattle.sector_disk.specs.Disk.{DiskState, Image, sector}
use Rattle.sector_disk.specs.Record.{Held, after_events, MayHold}
use Rattle.sector_disk.specs.Whole.{AreSectors}

-- what reads of the file give
abbrev pub file_seen : Held → Image
file_seen held = after_events held.stable held.pending

-- Where it's known what a file holds, P holds of that before a call and after it; where it isn't, nothing is said.
abbrev pub IfKnown : (Held → Held → Type 0) → Option Held → Option Held → Type 0
IfKnown P (Some old) (Some new) = P old new
IfKnown P None None = Unit {0}
IfKnown P (Some old) None = ⊥
IfKnown P None (Some new) = ⊥

-- the content that a run from sector `first` on gives this sector
abbrev pub IsRun : ℕ → Image → ℕ → List ℕ → Type 0
IsRun first run n content = (first ≤ n) × (n < first + length run) × (content ≡ sector run (n - first))

-- each sector of the run may be written, and no other is
pub record IsRunTried (first : ℕ) (run : Image) (old new : Held) : Type 0 where
  pub nothing_else : (n : ℕ) (content : List ℕ) → MayHold new n content → MayHold old n content ⊎ IsRun first run n content
  pub seen : (n : ℕ) → (sector (file_seen new) n ≡ sector (file_seen old) n) ⊎ IsRun first run n (sector (file_seen new) n)

-- each of them is
abbrev pub HasRun : ℕ → Image → Held → Type 0
HasRun first run held = (n : ℕ) → first ≤ n → n < first + length run → sector (file_seen held) n ≡ sector run (n - first)

-- a stop leaves nothing else than before
abbrev pub IsHeldNarrowed : Held → Held → Type 0
IsHeldNarrowed old new = (n : ℕ) (content : List ℕ) → MayHold new n content → MayHold old n content

-- reads give the same, and a stop leaves just that
pub record IsHeldSynced (old new : Held) : Type 0 where
  pub seen : (n : ℕ) → sector (file_seen new) n ≡ sector (file_seen old) n
  pub stable : (n : ℕ) (content : List ℕ) → MayHold new n content → content ≡ sector (file_seen new) n

-- a stop leaves what reads give
abbrev pub IsHeldStable : Held → Type 0
IsHeldStable held = (n : ℕ) (content : List ℕ) → MayHold held n content → content ≡ sector (file_seen held) n

-- reads of the file's first sectors give these
abbrev pub HasSectors : Image → Held → Type 0
HasSectors image held = (n : ℕ) → n < length image → sector (file_seen held) n ≡ sector image n

-- and a stop leaves just them
pub record HasStable (image : Image) (held : Held) : Type 0 where
  pub seen : (n : ℕ) → n < length image → sector (file_seen held) n ≡ sector image n
  pub stable : (n : ℕ) (content : List ℕ) → n < length image → MayHold held n content → content ≡ sector image n

-- so many sectors are in it, all of them whole
pub record HasCount (count : ℕ) (held : Held) : Type 0 where
  pub len : length (file_seen held) ≡ count
  pub whole : AreSectors (file_seen held)

-- all that are in it, but not more than `most`, are so many; and they are whole
pub record HasFirst (most count : ℕ) (held : Held) : Type 0 where
  pub len : min most (length (file_seen held)) ≡ count
  pub whole : AreSectors (file_seen held)

-- the file may lack what reads of the disk give in this sector: it's among those that wait, or all are
abbrev pub Lacks : List ℕ → Bool → ℕ → Type 0
Lacks waiting all_wait n = (all_wait ≡ true) ⊎ Contains waiting n

-- What a stop leaves in the file, the disk says that a stop may leave; and the file has what reads of the disk give but for
-- the sectors that wait.
pub record KeepsFile (disk : DiskState) (waiting : List ℕ) (all_wait : Bool) (held : Held) : Type 0 where
  pub allowed : (n : ℕ) (content : List ℕ) → n < disk.size → MayHold held n content → disk.may_hold n content
  pub same : (n : ℕ) → n < disk.size → Lacks waiting all_wait n ⊎ (sector (file_seen held) n ≡ sector disk.seen n)

-- a file is as `KeepsFile` says, if it is known what it holds
abbrev pub KeepsKnown : DiskState → List ℕ → Bool → Option Held → Type 0
KeepsKnown disk waiting all_wait file = ∥ IfSome file (KeepsFile disk waiting all_wait) ∥₁

-- What a stop leaves in the file, the disk says that a stop may leave; and before sector `first` the file has what reads of the
-- disk give.
pub record KeepsBefore (disk : DiskState) (first : ℕ) (held : Held) : Type 0 where
  pub allowed : (n : ℕ) (content : List ℕ) → n < disk.size → MayHold held n content → disk.may_hold n content
  pub same : (n : ℕ) → n < disk.size → n < first → sector (file_seen held) n ≡ sector disk.seen n

-- a file is as `KeepsBefore` says, if it is known what it holds
abbrev pub FollowsBefore : DiskState → ℕ → Option Held → Type 0
FollowsBefore disk first file = ∥ IfSome file (KeepsBefore disk first) ∥₁
