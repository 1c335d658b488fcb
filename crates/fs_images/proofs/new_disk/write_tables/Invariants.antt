use Rattle.std.proofs.Common.{◌≡◌, ◌≤◌, ◌<◌, ℕ}
use Rattle.sector_disk.specs.Disk.{AddsOnly, IsImageOr, LeavesOnly, sector}
use Rattle.fs_images.specs.Making.{BehindSuperblock, KeepsBesideTables}
use Rattle.fs_images.specs.NewTables.{IsNewTable}
use Rattle.fs_images.proofs.new_disk.write_tables.Given as goal

abbrev pub invariant-loop-n : goal.invariant-loop-n
invariant-loop-n g l = record {
  written : (s : ℕ) → l.geometry.inode_bitmap ≤ s → s < l.n → IsNewTable l.geometry s (sector (g.D.Disk.state l.disk).seen s);
  kept : KeepsBesideTables l.geometry (g.D.Disk.state l.initial.disk).seen (g.D.Disk.state l.disk).seen;
  adds : AddsOnly BehindSuperblock (g.D.Disk.state l.initial.disk) (g.D.Disk.state l.disk);
  since : LeavesOnly (g.D.Disk.state l.initial.disk) (g.D.Disk.state l.disk) (IsImageOr BehindSuperblock (g.D.Disk.state l.initial.disk));
  failures : (g.D.Disk.state l.initial.disk).failures ≤ (g.D.Disk.state l.disk).failures;
}
