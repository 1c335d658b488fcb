use Rattle.std.proofs.Common.{◌*◌, ◌≤◌}
use Rattle.std.specs.Prelude.{vec_capacity}
use Rattle.sector_disk.specs.Disk.{OnlyReads}
use Rattle.fs_check.specs.Checks.{meaning}
use Rattle.fs_check.specs.TableSectors.{AreInodesBefore}
use Rattle.fs_check.proofs.inodes.read_inodes.Given as goal

abbrev pub invariant-loop-k : goal.invariant-loop-k
invariant-loop-k g l = record {
  reads : OnlyReads (g.D.Disk.state l.initial.disk) (g.D.Disk.state l.disk);
  before : AreInodesBefore l.opened.geometry (meaning (g.D.Disk.state l.initial.disk)) (4 * l.k) l.inodes.items;
  room : l.opened.geometry.inodes ≤ vec_capacity l.inodes;
}
