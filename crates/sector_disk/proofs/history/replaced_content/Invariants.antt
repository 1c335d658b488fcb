use Rattle.sector_disk.proofs.Picking.{IsLeft}
use Rattle.sector_disk.proofs.history.replaced_content.Given as goal

abbrev pub invariant-loop-step : goal.invariant-loop-step
invariant-loop-step l = IsLeft l.pending l.n l.number l.last l.step-index l.before
