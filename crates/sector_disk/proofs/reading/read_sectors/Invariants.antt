use Rattle.std.proofs.Common.{◌-◌}
use Rattle.sector_disk.proofs.Following.{IsReadTo}
use Rattle.sector_disk.proofs.reading.read_sectors.Given as goal

abbrev pub invariant-loop-at : goal.invariant-loop-at
invariant-loop-at g l = IsReadTo l.at l.count l.sectors.shown (g.F.DiskFile.held l.initial.file) (g.F.DiskFile.held l.file)

abbrev pub decreases-loop-at : goal.decreases-loop-at
decreases-loop-at g l = l.count - l.at
