use Rattle.std.proofs.Common.{◌≡◌, ◌≤◌, ◌<◌, ◌+◌, ◌*◌, ◌/◌, ◌%◌, ℕ, length}
use Rattle.fs_layout.specs.Bytes.{u32_of}
use Rattle.fs_layout.specs.declared.header.TheConstants.{MAX_HEADER}
use Rattle.fs_layout.specs.Header.{area_start, log_end, max_targets}
use Rattle.sector_disk.specs.Disk.{sector}
use Rattle.redo_journal.specs.Batch.{target_at}
use Rattle.redo_journal.specs.States.{InLog}
use Rattle.redo_journal.proofs.Writing.{HasRun}
use Rattle.redo_journal.proofs.steps.write_header.Given as goal

abbrev pub invariant-loop-at : goal.invariant-loop-at
invariant-loop-at g l = record {
  most : l.header ≤ MAX_HEADER;
  few : length l.batch.entries ≤ max_targets l.header;
  room : log_end l.header ≤ (g.D.Disk.state l.initial.disk).size;
  written : (k : ℕ) → k < 128 * l.at → 126 + k < length l.batch.entries → u32_of (sector (g.D.Disk.state l.disk).seen (area_start l.header l.area + k / 128)) (4 * (k % 128)) ≡ target_at l.batch.entries (126 + k);
  others : (n : ℕ) → (area_start l.header l.area ≤ n → n < area_start l.header l.area + l.header → ⊥) → sector (g.D.Disk.state l.disk).seen n ≡ sector (g.D.Disk.state l.initial.disk).seen n;
  run : HasRun (InLog l.header l.area) (g.D.Disk.state l.initial.disk) (g.D.Disk.state l.disk);
}
