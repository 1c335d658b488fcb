use Rattle.std.proofs.Common.{◌≢◌, ◌≤◌, ◌%◌, ◌*◌}
use Rattle.std.specs.Prelude.{vec_capacity}
use Rattle.sector_disk.specs.Disk.{OnlyReads}
use Rattle.fs_check.specs.Checks.{meaning}
use Rattle.fs_check.specs.TableSectors.{IsTableSector, AreInodesBefore}
use Rattle.fs_check.proofs.inodes.read_sector.Given as goal

abbrev pub invariant-loop-ino : goal.invariant-loop-ino
invariant-loop-ino g l = record {
  reads : OnlyReads (g.D.Disk.state l.fn.disk) (g.D.Disk.state l.disk);
  kept : l.ino % 4 ≢ 0 → IsTableSector l.opened.geometry (meaning (g.D.Disk.state l.fn.disk)) l.ino l.table;
  begun : 4 * l.k ≤ l.ino;
  before : AreInodesBefore l.opened.geometry (meaning (g.D.Disk.state l.fn.disk)) l.ino l.inodes.items;
  room : l.opened.geometry.inodes ≤ vec_capacity l.inodes;
}
