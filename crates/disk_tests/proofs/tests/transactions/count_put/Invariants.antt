use Rattle.sector_txn.specs.Sectors.{SameStore}
use Rattle.disk_tests.proofs.tests.transactions.count_put.Given as goal

abbrev pub invariant-loop-k : goal.invariant-loop-k
invariant-loop-k g l = SameStore (g.S.Sectors.state l.initial.s) (g.S.Sectors.state l.s)
