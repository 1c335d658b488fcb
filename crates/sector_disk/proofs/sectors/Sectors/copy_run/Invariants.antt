use Rattle.sector_disk.proofs.Placed.{IsCopied}
use Rattle.sector_disk.proofs.sectors.Sectors.copy_run.Given as goal

abbrev pub invariant-loop-i : goal.invariant-loop-i
invariant-loop-i l = IsCopied l.first l.i l.self.shown l.to
