use Rattle.std.proofs.Common.{◌≡◌, ◌≤◌, ◌<◌, ◌+◌, ◌*◌, ℕ, [], length, get_or}
use Rattle.sector_disk.specs.Disk.{sector}
use Rattle.fs_layout.specs.Header.{area_start, log_end, max_targets}
use Rattle.fs_layout.specs.declared.header.TheConstants.{MAX_HEADER}
use Rattle.redo_journal.specs.States.{InLog}
use Rattle.redo_journal.proofs.Writing.{HasRun}
use Rattle.redo_journal.proofs.steps.write_log.Given as goal

abbrev pub invariant-loop-content : goal.invariant-loop-content
invariant-loop-content g l = record {
  at : l.at ≡ area_start l.header l.area + l.header + l.content-index;
  most : l.header ≤ MAX_HEADER;
  few : length l.content-items ≤ max_targets l.header;
  room : log_end l.header ≤ (g.D.Disk.state l.initial.disk).size;
  others : (n : ℕ) → (area_start l.header l.area + l.header ≤ n → n < area_start l.header l.area + 126 + 129 * l.header → ⊥) → sector (g.D.Disk.state l.disk).seen n ≡ sector (g.D.Disk.state l.initial.disk).seen n;
  written : (k : ℕ) → k < l.content-index → sector (g.D.Disk.state l.disk).seen (area_start l.header l.area + l.header + k) ≡ get_or l.content-items k [];
  run : HasRun (InLog l.header l.area) (g.D.Disk.state l.initial.disk) (g.D.Disk.state l.disk);
}
