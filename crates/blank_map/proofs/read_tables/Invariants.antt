use Rattle.std.proofs.Common.{ℕ, ◌<◌, ◌≤◌}
use Rattle.fs_layout.specs.Bytes.{IsSector}
use Rattle.sector_txn.specs.Sectors.{IsUnchanged}
use Rattle.blank_map.proofs.read_tables.Given as goal

abbrev pub invariant-loop-n : goal.invariant-loop-n
invariant-loop-n g l = record {
  same : IsUnchanged (g.S.Sectors.state l.initial.s) (g.S.Sectors.state l.s);
  whole : (t : ℕ) → l.fn.geometry.inode_bitmap ≤ t → t < l.n → IsSector ((g.S.Sectors.state l.initial.s).sectors t);
}
