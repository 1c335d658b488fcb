use Rattle.std.proofs.Common.{◌≡◌, ◌+◌, ◌*◌, ◌<◌, ◌≤◌}
use Rattle.sector_txn.specs.Sectors.{IsUnchanged}
use Rattle.bit_alloc.specs.Bits.{clear_below}
use Rattle.bit_alloc.specs.Bitmaps.{first_sector}
use Rattle.bit_alloc.proofs.bitmap.count_between.Given as goal

abbrev pub invariant-loop-k : goal.invariant-loop-k
invariant-loop-k g l = record {
  same : IsUnchanged (g.S.Sectors.state l.initial.s) (g.S.Sectors.state l.s);
  some : clear_below (g.S.Sectors.state l.initial.s).sectors (first_sector l.geometry l.map) (4096 * l.from) + l.free
      ≤ clear_below (g.S.Sectors.state l.initial.s).sectors (first_sector l.geometry l.map) (4096 * l.k);
  all : l.free < l.enough → clear_below (g.S.Sectors.state l.initial.s).sectors (first_sector l.geometry l.map) (4096 * l.from) + l.free
      ≡ clear_below (g.S.Sectors.state l.initial.s).sectors (first_sector l.geometry l.map) (4096 * l.k);
}
