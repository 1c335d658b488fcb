use Rattle.sector_txn.specs.Sectors.{IsUnchanged}
use Rattle.dir_core.proofs.names.leave_hints.Given as goal

abbrev pub invariant-loop-k : goal.invariant-loop-k
invariant-loop-k g l = IsUnchanged (g.S.Sectors.state l.initial.s) (g.S.Sectors.state l.s)
