use Rattle.sector_txn.specs.Sectors.{SameStore}
use Rattle.storage_tests.proofs.tests.bitmaps.put_all_but.Given as goal

abbrev pub invariant-loop-t : goal.invariant-loop-t
invariant-loop-t g l = SameStore (g.S.Sectors.state l.initial.s) (g.S.Sectors.state l.s)
