use Rattle.std.proofs.Common.{◌≡◌, ◌*◌}
use Rattle.sector_txn.specs.Sectors.{IsUnchanged}
use Rattle.bit_alloc.specs.Bits.{clear_below}
use Rattle.bit_alloc.specs.Bitmaps.{first_sector}
use Rattle.free_counts.specs.Known.{TellsClear}
use Rattle.free_counts.proofs.FreeCounts.count_free.Given as goal

abbrev pub invariant-loop-k : goal.invariant-loop-k
invariant-loop-k g l = record {
  same : IsUnchanged (g.S.Sectors.state l.initial.s) (g.S.Sectors.state l.s);
  told : TellsClear (g.S.Sectors.state l.initial.s).header (g.S.Sectors.state l.initial.s).sectors l.self;
  count : l.free ≡ clear_below (g.S.Sectors.state l.initial.s).sectors (first_sector l.geometry l.map) (4096 * l.k);
}
