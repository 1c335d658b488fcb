-- The commit that stands.
--     HasLast        what each store keeps of it
use Rattle.std.specs.Prelude.{◌≡◌, ◌≤◌, Option, None, IfSome}
use Rattle.fs_layout.specs.declared.geometry.Geometry.{Geometry}
use Rattle.fs_layout.specs.Header.{max_targets}
use Rattle.redo_journal.specs.Batch.{BatchView, targets}
use Rattle.redo_journal.specs.Meaning.{HasLayout, data_of}
use Rattle.redo_journal.specs.States.{StandsIn, header_at}
use Rattle.sector_disk.specs.Disk.{DiskState}

-- A batch with room for a commit. Where a layout is known, it is that of what the disk reads as, and the commit that stands has no other
-- targets than the batch. Where the log has one area none is known.
pub record HasLast (disk : DiskState) (layout : Option Geometry) (last : BatchView) : Type 0 where
  pub room : last.most ≡ max_targets (header_at disk.seen)
  pub known : IfSome layout (λ p. HasLayout (data_of disk) p × (p.sectors ≤ disk.size) × StandsIn (targets last.entries) disk)
  pub alone : header_at disk.seen ≡ 0 → layout ≡ None
