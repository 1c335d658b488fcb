use Rattle.std.proofs.Common.{◌<◌, ℕ}
use Rattle.fs_model.specs.Rules.{Obeys, Slots}
use Rattle.sector_disk.specs.Disk.{OnlyReads}
use Rattle.fs_check.specs.Checks.{meaning}
use Rattle.fs_check.specs.Naming.{IsNaming}
use Rattle.fs_check.proofs.directories.add_directories.Given as goal

abbrev pub invariant-loop-dir_ino : goal.invariant-loop-dir_ino
invariant-loop-dir_ino g l = record {
  reads : OnlyReads (g.D.Disk.state l.fn.disk) (g.D.Disk.state l.disk);
  good : (k : ℕ) → k < l.dir_ino → Obeys l.opened.geometry (meaning (g.D.Disk.state l.fn.disk)) Slots k;
  naming : IsNaming l.opened.geometry (meaning (g.D.Disk.state l.fn.disk)) l.dir_ino l.names.counts.items l.names.directories.items l.names.repeated;
}
