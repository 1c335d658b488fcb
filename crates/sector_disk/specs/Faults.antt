-- A disk over another, which counts failures of its own: its state, and the laws of that.
use Rattle.std.specs.Prelude.{ℕ, ◌+◌, ◌-◌, ◌^◌, ◌<◌, ◌≤◌, min}
use Rattle.std.proofs.Common.{arith}
use Rattle.sector_disk.specs.Disk.{DiskState, Image, IsImage, IsFresh}

-- a disk that fails by itself, as callers see it: the disk below, the first call that is to fail, and how often its reads,
-- and its writes and syncs, have failed by themselves
pub record Faulty (D : Type 0) : Type 0 where
  pub disk : D
  pub call : ℕ
  pub failed_reads : ℕ
  pub failed_writes : ℕ

-- a disk with more failures, as far as they can be counted
abbrev pub with_failures : DiskState → ℕ → ℕ → DiskState
with_failures disk reads writes =
    record disk { failures = min (disk.failures + (reads + writes)) (2 ^ 64 - 1); failed_writes = disk.failed_writes + writes }

-- how the layers above see it
abbrev pub faulty_state : {D : Type 0} → (D → DiskState) → Faulty D → DiskState
faulty_state state faulty = with_failures (state faulty.disk) faulty.failed_reads faulty.failed_writes

pub failures_fit : (disk : DiskState) (reads writes : ℕ) → (with_failures disk reads writes).failures < 2 ^ 64
failures_fit disk reads writes = omega arith

pub seen_is_image : (disk : DiskState) (reads writes : ℕ) → IsImage disk disk.seen → IsImage (with_failures disk reads writes) disk.seen
seen_is_image disk reads writes is = record { size = is.size; each = is.each }

pub counts_now : (disk : DiskState) (reads writes : ℕ) → ((t : ℕ) (image : Image) → t ≤ disk.moment → IsImage disk image → disk.left_since t image)
    → (t : ℕ) (image : Image) → t ≤ disk.moment → IsImage (with_failures disk reads writes) image → disk.left_since t image
counts_now disk reads writes law t image le is = law t image le (record { size = is.size; each = is.each })

pub only_now : (disk : DiskState) (reads writes : ℕ) → ((image : Image) → disk.left_since disk.moment image → IsImage disk image)
    → (image : Image) → disk.left_since disk.moment image → IsImage (with_failures disk reads writes) image
only_now disk reads writes law image left = let is = law image left in record { size = is.size; each = is.each }

pub fresh : (disk : DiskState) (image : Image) → IsFresh disk image → IsFresh (with_failures disk 0 0) image
fresh disk image is = record { size = is.size; seen = is.seen; stable = is.stable; failures = omega (arith, is.failures) }
