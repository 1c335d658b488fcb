use Rattle.std.proofs.Common.{◌≡◌, length}
use Rattle.sector_txn.specs.Sectors.{IsUnchanged}
use Rattle.fs_model.specs.Trees.{Tree, is_within, IsDirectoryAt}
use Rattle.path_walk.specs.HeldTrees.{HoldsTree}
use Rattle.name_calls.proofs.Upward.{height}
use Rattle.name_calls.proofs.renaming.is_below.Given as goal

abbrev pub invariant-loop-at : goal.invariant-loop-at
invariant-loop-at g l = record {
  same : IsUnchanged (g.S.Sectors.state l.fn.s) (g.S.Sectors.state l.s);
  each : (t : Tree) → HoldsTree l.geometry (g.S.Sectors.state l.fn.s).sectors t → IsDirectoryAt t l.dir_ino
      → IsDirectoryAt t l.at × (is_within (length t) t l.ino l.dir_ino ≡ is_within (length t) t l.ino l.at);
}

abbrev pub decreases-loop-at : goal.decreases-loop-at
decreases-loop-at g l = height l.geometry (g.S.Sectors.state l.fn.s).sectors l.geometry.inodes l.at
