use Rattle.std.proofs.Common.{◌≡◌, ◌+◌, ◌*◌}
use Rattle.fs_model.specs.Stands.{room_of}
use Rattle.fs_model.specs.Trees.{Tree}
use Rattle.sector_txn.specs.Sectors.{IsUnchanged}
use Rattle.path_walk.specs.HeldTrees.{HoldsTree, IsThere}
use Rattle.path_walk.specs.Stages.{names_ahead, stage_of, StandsAt, bytes_ahead, HasRoom}
use Rattle.path_walk.specs.Walked.{walk_of}
use Rattle.path_walk.proofs.walker.walk.Given as goal

abbrev pub invariant-loop-walker : goal.invariant-loop-walker
invariant-loop-walker g l = record {
  same : IsUnchanged (g.S.Sectors.state l.fn.s) (g.S.Sectors.state l.s);
  at : StandsAt l.geometry (g.S.Sectors.state l.fn.s).sectors l.walker;
  room : HasRoom l.walker;
  each : (t : Tree) → HoldsTree l.geometry (g.S.Sectors.state l.fn.s).sectors t → IsThere t l.cwd
      → (walk_of (room_of l.geometry) t l.cred l.number l.form l.cwd l.path ≡ stage_of (room_of l.geometry) t l.cred l.form l.follow l.walker (names_ahead l.walker)) × IsThere t l.walker.here;
}

abbrev pub decreases-loop-walker : goal.decreases-loop-walker
decreases-loop-walker g l = bytes_ahead l.walker + 21544 * l.walker.links
