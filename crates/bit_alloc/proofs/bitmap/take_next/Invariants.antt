use Rattle.std.proofs.Common.{◌≡◌, ℕ, ◌+◌, ◌%◌, ◌<◌, get_or}
use Rattle.std.specs.Prelude.{length}
use Rattle.sector_txn.specs.Sectors.{IsUnchanged}
use Rattle.bit_alloc.specs.Bits.{AreSet}
use Rattle.bit_alloc.specs.Bitmaps.{first_sector}
use Rattle.bit_alloc.proofs.bitmap.take_next.Given as goal

abbrev pub invariant-loop-turn : goal.invariant-loop-turn
invariant-loop-turn g l = record {
  same : IsUnchanged (g.S.Sectors.state l.initial.s) (g.S.Sectors.state l.s);
  full : (j : ℕ) → j < l.turn → AreSet ((g.S.Sectors.state l.initial.s).sectors (first_sector l.geometry l.map + (l.first + j) % l.sectors)) 4096;
  len : length l.numbers ≡ length l.initial.numbers;
  before : (i : ℕ) → i < l.from → get_or l.numbers i 0 ≡ get_or l.initial.numbers i 0;
}
