use Rattle.std.proofs.Common.{ℕ, ◌<◌, IsTrue}
use Rattle.fs_layout.specs.Images.{bit}
use Rattle.sector_txn.specs.Sectors.{IsUnchanged}
use Rattle.bit_alloc.specs.Bitmaps.{first_sector, IsNumber}
use Rattle.storage_tests.proofs.tests.bitmaps.has_rest_set.Given as goal

abbrev pub invariant-loop-n : goal.invariant-loop-n
invariant-loop-n g l = record {
  same : IsUnchanged (g.S.Sectors.state l.initial.s) (g.S.Sectors.state l.s);
  set : (i : ℕ) → i < l.n → (IsNumber l.geometry l.map i → ⊥) → IsTrue (bit (g.S.Sectors.state l.initial.s).sectors (first_sector l.geometry l.map) i);
}
