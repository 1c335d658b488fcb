use Rattle.std.proofs.Common.{take}
use Rattle.sector_disk.specs.Places.{IsRunSet}
use Rattle.sector_disk.proofs.sectors.Sectors.set_run.Given as goal

abbrev pub invariant-loop-i : goal.invariant-loop-i
invariant-loop-i l = IsRunSet l.first (take l.i l.run) l.initial.self.shown l.self.shown
