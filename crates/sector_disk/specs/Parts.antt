-- A file of which some sectors are in memory, and the disk that this is: its state, and the laws of that.
--     IsImageOf, file_image        the image of a file
--     IsPart        which of its sectors are in memory
--     AreZerosElse, HasEnds        the others count as zeros; of which sectors only the end is known
--     part_past, part_state        a disk that isn't written: its past, and its state, with failures
use Rattle.std.specs.Prelude.{◌≡◌, ◌≢◌, ℕ, ◌≤◌, ◌<◌, ◌^◌, List, [], length, take, get_or, replicate, Option, Some, None}
use Rattle.std.proofs.Common.{arith}
use Rattle.sector_disk.specs.Disk.{DiskState, Image, IsImage, IsWholeSector, EndsInZeros, sector}
use Rattle.sector_disk.specs.Faults as faults
use Rattle.sector_disk.specs.Faults.{with_failures}
use Rattle.sector_disk.specs.Files.{file_seen}
use Rattle.sector_disk.specs.Record.{Past, Held, replay, MayHold, LeftSince, recorded_state}
use Rattle.sector_disk.specs.Replay as replayed
use Rattle.sector_disk.specs.Whole as wholes
use Rattle.sector_disk.specs.Whole.{AreSectors, none_written}

-- The image of a file is what reads of it give, up to one sector more than any layout has.
abbrev pub IsImageOf : Image → Held → Type 0
IsImageOf image held = image ≡ take 16777217 (file_seen held)

-- the image of the file; where it isn't known what that holds, what is in memory
abbrev pub file_image : Option Held → Image → Image
file_image None memory = memory
file_image (Some held) memory = take 16777217 (file_seen held)

-- In memory are as many sectors as the file's image has, and those whose number isn't 0 are as they are there.
pub record IsPart (file : Option Held) (memory : Image) (loaded : List ℕ) : Type 0 where
  pub size : length (file_image file memory) ≡ length memory
  pub whole : AreSectors (file_image file memory)
  pub same : (n : ℕ) → get_or loaded n 0 ≢ 0 → sector memory n ≡ sector (file_image file memory) n

-- those that aren't in memory count as zeros there
abbrev pub AreZerosElse : Image → List ℕ → Type 0
AreZerosElse memory loaded = (n : ℕ) → n < length memory → get_or loaded n 0 ≡ 0 → sector memory n ≡ replicate 512 0

-- Where it's known what the file holds, each sector whose number isn't 0 has zeros from that byte on.
abbrev pub HasEnds : Option Held → List ℕ → Type 0
HasEnds file ends = (held : Held) → file ≡ Some held → (n : ℕ) → get_or ends n 0 ≢ 0
    → EndsInZeros (get_or ends n 0) (sector (file_seen held) n)

-- the file's image was there at first, and nothing was done since
abbrev pub part_past : Option Held → Image → Past
part_past file memory = record { start = file_image file memory; events = [] }

-- the disk that is the file's image, and of which so many reads, and so many writes and syncs, have failed
abbrev pub part_state : Option Held → Image → ℕ → ℕ → DiskState
part_state file memory reads writes = with_failures (recorded_state (part_past file memory) 0) reads writes

pub size_fits : {file : Option Held} {memory : Image} {loaded : List ℕ} → IsPart file memory loaded → length memory < 2 ^ 32
    → length (file_image file memory) < 2 ^ 32
size_fits part few = let size = part.size in omega (arith, few, size)

pub failures_fit : (file : Option Held) (memory : Image) (reads writes : ℕ) → (part_state file memory reads writes).failures < 2 ^ 64
failures_fit file memory reads writes = faults.failures_fit (recorded_state (part_past file memory) 0) reads writes

pub whole_sectors : {file : Option Held} {memory : Image} {loaded : List ℕ} → IsPart file memory loaded
    → (n : ℕ) (content : List ℕ) → n < length (file_image file memory) → MayHold (replay (file_image file memory) []) n content → IsWholeSector content
whole_sectors {file} {memory} part n content below may =
    wholes.whole_sectors (part_past file memory) (record { start = part.whole; events = none_written }) n content below may

pub seen_is_image : (file : Option Held) (memory : Image) (reads writes : ℕ) → IsImage (part_state file memory reads writes) (file_image file memory)
seen_is_image file memory reads writes =
    faults.seen_is_image (recorded_state (part_past file memory) 0) reads writes (replayed.seen_is_image (part_past file memory) 0)

pub counts_now : (file : Option Held) (memory : Image) (reads writes t : ℕ) (image : Image) → t ≤ 0 → IsImage (part_state file memory reads writes) image
    → LeftSince (part_past file memory) t image
counts_now file memory reads writes =
    faults.counts_now (recorded_state (part_past file memory) 0) reads writes (replayed.counts_now (part_past file memory) 0)

pub only_now : (file : Option Held) (memory : Image) (reads writes : ℕ) (image : Image) → LeftSince (part_past file memory) 0 image
    → IsImage (part_state file memory reads writes) image
only_now file memory reads writes = faults.only_now (recorded_state (part_past file memory) 0) reads writes (replayed.only_now (part_past file memory) 0)
