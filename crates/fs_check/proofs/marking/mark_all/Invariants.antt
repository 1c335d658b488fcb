use Rattle.std.proofs.Common.{◌<◌, ℕ}
use Rattle.fs_model.specs.Rules.{IsInData}
use Rattle.sector_disk.specs.Disk.{OnlyReads}
use Rattle.fs_check.specs.Checks.{meaning}
use Rattle.fs_check.specs.Counts.{times_owned_before, IsMarked}
use Rattle.fs_check.proofs.marking.mark_all.Given as goal

abbrev pub invariant-loop-ino : goal.invariant-loop-ino
invariant-loop-ino g l = record {
  reads : OnlyReads (g.D.Disk.state l.initial.disk) (g.D.Disk.state l.disk);
  good : (k : ℕ) → k < l.ino → IsInData l.opened.geometry (meaning (g.D.Disk.state l.initial.disk)) k;
  marked : IsMarked l.opened.geometry (meaning (g.D.Disk.state l.initial.disk))
      (times_owned_before l.opened.geometry (meaning (g.D.Disk.state l.initial.disk)) l.ino) l.marks;
}
