use Rattle.bit_alloc.specs.Bitmaps.{HasBitmaps}
use Rattle.bit_alloc.specs.Room.{HasSpare}
use Rattle.storage_tests.proofs.tests.bitmaps.agreed.Given as goal

abbrev pub invariant-loop-i : goal.invariant-loop-i
invariant-loop-i g l = record {
  bitmaps : HasBitmaps l.geometry (g.S.Sectors.state l.s.inner);
  room : HasSpare l.geometry 0 (g.S.Sectors.state l.s.inner);
}
