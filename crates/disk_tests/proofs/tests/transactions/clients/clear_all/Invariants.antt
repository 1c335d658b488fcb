use Rattle.std.proofs.Common.{◌≡◌, ◌<◌, ℕ, get_or}
use Rattle.std.specs.Prelude.{Contains, replicate}
use Rattle.sector_txn.specs.Sectors.{PutsOnly}
use Rattle.disk_tests.proofs.tests.transactions.clients.clear_all.Given as goal

abbrev pub invariant-loop-n : goal.invariant-loop-n
invariant-loop-n g l = record {
  cleared : (k : ℕ) → k < l.n-index → (g.S.Sectors.state l.s).sectors (get_or l.sectors k 0) ≡ replicate 512 0;
  changes : PutsOnly (Contains l.sectors) l.sectors 0 (g.S.Sectors.state l.initial.s) (g.S.Sectors.state l.s);
}
