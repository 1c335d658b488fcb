-- What a stop leaves while deltas are kept.
--     MeansUsedBefore        an image that means what one of the start did, where sectors are in use
--     IsOneOf        such an image, or one that reads as one of two maps
--     LeavesOneOf, LeavesOldOr        what a stop leaves at any moment of a call
--     LogsAll        what a commit leaves where all that waits goes through the log
use Rattle.std.specs.Prelude.{◌≡◌, ◌≤◌, ◌⊎◌, List, length}
use Rattle.fs_layout.specs.declared.commit.TheConstants.{MAX_TARGETS}
use Rattle.fs_layout.specs.Bytes.{SectorMap}
use Rattle.redo_journal.specs.Batch.{Entry}
use Rattle.redo_journal.specs.Meaning.{ReadsAs, MeansUsed, LeavesAllOrNone}
use Rattle.sector_disk.specs.Disk.{DiskState, Image, IsImage, LeavesOnly}

-- a stop might have left, at the start, an image that means what this one does in the sectors that are in use
abbrev pub MeansUsedBefore : DiskState → Image → Type 0
MeansUsedBefore start image = (from : Image) × IsImage start from × MeansUsed start.size from image

-- The image means what an image did that a stop might have left at the start, but for free sectors, or it reads as one of the two maps. In each
-- case it has the disk's length, and its commit sector is valid, at least where that of the other image is.
abbrev pub IsOneOf : DiskState → SectorMap → SectorMap → Image → Type 0
IsOneOf start before after image =
    MeansUsedBefore start image ⊎ ReadsAs start.size before image ⊎ ReadsAs start.size after image

-- a stop at any moment since old leaves such an image, and the disk keeps its length
pub record LeavesOneOf (before after : SectorMap) (old new : DiskState) : Type 0 where
  pub size : new.size ≡ old.size
  pub any_moment : LeavesOnly old new (IsOneOf old before after)

-- with one map: a stop leaves what means what an image of the start did, or reads as the map
abbrev pub LeavesOldOr : SectorMap → DiskState → DiskState → Type 0
LeavesOldOr sectors old new = LeavesOneOf sectors sectors old new

-- no more sectors wait than a commit sector has targets, and a stop at any moment since old leaves what reads as old does, or as that with all
-- of them, also in free sectors
pub record LogsAll (waiting : List Entry) (old new : DiskState) : Type 0 where
  pub few : length waiting ≤ MAX_TARGETS
  pub any_moment : LeavesAllOrNone waiting old new
