use Rattle.std.proofs.Common.{◌-◌, ◌≤◌}
use Rattle.sector_disk.specs.Record.{recorded_state}
use Rattle.sector_disk.specs.Files.{FollowsBefore}
use Rattle.sector_disk.proofs.waiting.write_all.Given as goal

abbrev pub invariant-loop-at : goal.invariant-loop-at
invariant-loop-at g l = record {
  fits : l.at ≤ l.size;
  follows : FollowsBefore (recorded_state l.memory.history l.memory.failures) l.at (g.F.DiskFile.held l.file);
}

abbrev pub decreases-loop-at : goal.decreases-loop-at
decreases-loop-at g l = l.size - l.at
