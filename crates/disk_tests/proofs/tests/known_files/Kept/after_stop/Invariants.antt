use Rattle.std.proofs.Common.{length}
use Rattle.sector_disk.specs.Record.{Leaves}
use Rattle.disk_tests.specs.Writes.{kept_held}
use Rattle.disk_tests.proofs.tests.known_files.Kept.after_stop.Given as goal

abbrev pub invariant-loop-i : goal.invariant-loop-i
invariant-loop-i l = Leaves (length l.self.stable.items) (kept_held l.self.stable.items l.self.writes.items) l.sectors.items
