use Rattle.std.specs.Prelude.{◌≡◌, ◌+◌, ◌≤◌, ◌^◌, drop}
use Rattle.fuse_plans.specs.ListingOrder.{behind, with_offsets}
use Rattle.fuse_steps.proofs.Cursors.{those_behind}
use Rattle.fuse_steps.proofs.cursor.Cursor.behind.Given as goal

-- the names before it aren't behind the offset
abbrev pub invariant-loop-at : goal.invariant-loop-at
invariant-loop-at l = record {
  at : l.cursor.at ≡ l.at;
  small : l.cursor.before ≤ 2 ^ 63 + l.cursor.at;
  behind : behind l.offset l.listing ≡ those_behind l.offset (with_offsets l.cursor.before (drop l.cursor.at l.listing));
}
