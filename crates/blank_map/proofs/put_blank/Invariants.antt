use Rattle.sector_txn.specs.Sectors.{SameStore}
use Rattle.blank_map.proofs.put_blank.Given as goal

abbrev pub invariant-loop-t : goal.invariant-loop-t
invariant-loop-t g l = SameStore (g.S.Sectors.state l.initial.s) (g.S.Sectors.state l.s)
