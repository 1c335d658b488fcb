use Rattle.std.proofs.Common.{◌≡◌, ◌<◌, ℕ, List, Contains, get_or}
use Rattle.sector_txn.proofs.clean.CleanSectors.forget_all.Given as goal

abbrev pub invariant-loop-n : goal.invariant-loop-n
invariant-loop-n l = record {
  kept : (pair : ℕ × List ℕ) → Contains l.self pair → Contains l.initial.self pair;
  gone : (pair : ℕ × List ℕ) (k : ℕ) → k < l.n-index → Contains l.self pair → pair.0 ≡ get_or l.sectors k 0 → ⊥;
}
