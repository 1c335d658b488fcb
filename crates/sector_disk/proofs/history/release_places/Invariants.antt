use Rattle.std.proofs.Common.{◌≡◌}
use Rattle.sector_disk.proofs.history.release_places.Given as goal

abbrev pub invariant-loop-step : goal.invariant-loop-step
invariant-loop-step l = l.image.shown ≡ l.initial.image.shown
