use Rattle.std.proofs.Common.{◌≡◌, ◌≤◌, ◌<◌, ◌+◌, ℕ, get_or}
use Rattle.fs_layout.specs.Commit.{AreTargets}
use Rattle.fs_layout.specs.declared.header.TheConstants.{MAX_HEADER}
use Rattle.fs_layout.specs.Header.{area_start, log_end}
use Rattle.sector_disk.specs.Disk.{sector}
use Rattle.redo_journal.specs.States.{InTargets}
use Rattle.redo_journal.proofs.Writing.{HasRun}
use Rattle.redo_journal.proofs.steps.copy_log.Given as goal

abbrev pub invariant-loop-target : goal.invariant-loop-target
invariant-loop-target g l = record {
  from : l.from ≡ area_start l.header l.area + l.header + l.target-index;
  most : l.header ≤ MAX_HEADER;
  valid : AreTargets l.header (g.D.Disk.state l.initial.disk).size l.sectors;
  low : (n : ℕ) → n < log_end l.header → sector (g.D.Disk.state l.disk).seen n ≡ sector (g.D.Disk.state l.initial.disk).seen n;
  written : (k : ℕ) → k < l.target-index → sector (g.D.Disk.state l.disk).seen (get_or l.sectors k 0) ≡ sector (g.D.Disk.state l.initial.disk).seen (area_start l.header l.area + l.header + k);
  run : HasRun (InTargets l.sectors) (g.D.Disk.state l.initial.disk) (g.D.Disk.state l.disk);
}
