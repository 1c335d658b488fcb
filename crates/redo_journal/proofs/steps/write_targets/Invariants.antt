use Rattle.std.proofs.Common.{◌≡◌, ◌<◌, ℕ, length}
use Rattle.std.specs.Prelude.{Contains}
use Rattle.sector_disk.specs.Disk.{sector}
use Rattle.redo_journal.specs.Batch.{IsOnDisk, targets, target_at, content_at}
use Rattle.redo_journal.specs.States.{header_at, InTargets}
use Rattle.redo_journal.proofs.Writing.{HasRun}
use Rattle.redo_journal.proofs.steps.write_targets.Given as goal

abbrev pub invariant-loop-n : goal.invariant-loop-n
invariant-loop-n g l = record {
  on_disk : IsOnDisk (header_at (g.D.Disk.state l.initial.disk).seen) (g.D.Disk.state l.initial.disk).size l.batch.entries;
  written : (k : ℕ) → k < length l.yielded → sector (g.D.Disk.state l.disk).seen (target_at l.batch.entries k) ≡ content_at l.batch.entries k;
  others : (n : ℕ) → (Contains (targets l.batch.entries) n → ⊥) → sector (g.D.Disk.state l.disk).seen n ≡ sector (g.D.Disk.state l.initial.disk).seen n;
  run : HasRun (InTargets (targets l.batch.entries)) (g.D.Disk.state l.initial.disk) (g.D.Disk.state l.disk);
}
