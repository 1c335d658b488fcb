use Rattle.std.proofs.Common.{◌≤◌, ◌-◌, false, length, drop}
use Rattle.sector_disk.specs.Record.{recorded_state}
use Rattle.sector_disk.specs.Files.{KeepsKnown}
use Rattle.sector_disk.proofs.waiting.write_waiting.Given as goal

abbrev pub invariant-loop-at : goal.invariant-loop-at
invariant-loop-at g l = record {
  fits : l.at ≤ length l.waiting;
  follows : KeepsKnown (recorded_state l.memory.history l.memory.failures) (drop l.at l.waiting) false (g.F.DiskFile.held l.file);
}

abbrev pub decreases-loop-at : goal.decreases-loop-at
decreases-loop-at g l = length l.waiting - l.at
