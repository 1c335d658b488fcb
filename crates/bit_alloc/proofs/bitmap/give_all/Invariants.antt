use Rattle.std.proofs.Common.{◌≤◌, ◌-◌}
use Rattle.std.specs.Prelude.{length}
use Rattle.sector_txn.specs.Sectors.{PutsOnly}
use Rattle.bit_alloc.specs.Bitmaps.{IsNumberOf, IsSectorOf, GivesNumbers, HasBitmaps}
use Rattle.bit_alloc.specs.Room.{bitmaps}
use Rattle.bit_alloc.proofs.bitmap.give_all.Given as goal

abbrev pub invariant-loop-at : goal.invariant-loop-at
invariant-loop-at g l = record {
  within : l.at ≤ length l.numbers;
  given : GivesNumbers l.geometry l.map (IsNumberOf l.numbers 0 l.at) (g.S.Sectors.state l.fn.s).sectors (g.S.Sectors.state l.s).sectors;
  puts : PutsOnly (IsSectorOf l.geometry l.map (IsNumberOf l.numbers 0 l.at)) (bitmaps l.geometry) 0 (g.S.Sectors.state l.fn.s) (g.S.Sectors.state l.s);
  bitmaps : HasBitmaps l.geometry (g.S.Sectors.state l.s);
}

abbrev pub decreases-loop-at : goal.decreases-loop-at
decreases-loop-at g l = length l.numbers - l.at
