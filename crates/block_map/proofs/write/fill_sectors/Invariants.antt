use Rattle.std.proofs.Common.{◌≤◌, [], length}
use Rattle.sector_txn.specs.Sectors.{PutsOnly}
use Rattle.bit_alloc.specs.Bitmaps.{IsNumberOf}
use Rattle.block_map.specs.Steps.{FillsSectors}
use Rattle.block_map.proofs.write.fill_sectors.Given as goal

abbrev pub invariant-loop-i : goal.invariant-loop-i
invariant-loop-i g l = record {
  within : l.i ≤ length l.numbers;
  filled : FillsSectors l.at l.i l.numbers l.bytes (g.S.Sectors.state l.initial.s).sectors (g.S.Sectors.state l.s).sectors l.initial.pointers l.pointers;
  puts : PutsOnly (IsNumberOf l.numbers 0 l.i) [] l.i (g.S.Sectors.state l.initial.s) (g.S.Sectors.state l.s);
}
