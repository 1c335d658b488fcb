use Rattle.std.proofs.Common.{◌≡◌, ℕ, ◌<◌, ◌≤◌, replicate}
use Rattle.sector_txn.specs.Sectors.{IsUnchanged}
use Rattle.blank_map.proofs.has_zero_table.Given as goal

abbrev pub invariant-loop-t : goal.invariant-loop-t
invariant-loop-t g l = record {
  same : IsUnchanged (g.S.Sectors.state l.initial.s) (g.S.Sectors.state l.s);
  zero : (k : ℕ) → l.fn.geometry.table ≤ k → k < l.t → (g.S.Sectors.state l.initial.s).sectors k ≡ replicate 512 0;
}
