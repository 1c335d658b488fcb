use Rattle.std.proofs.Common.{◌≡◌, ◌≤◌, ◌<◌, ℕ, get_or}
use Rattle.std.specs.Prelude.{length}
use Rattle.fs_layout.specs.Bytes.{IsSector}
use Rattle.bit_alloc.specs.Bits.{SetsListed}
use Rattle.bit_alloc.proofs.bits.set_listed.Given as goal

abbrev pub invariant-loop-place : goal.invariant-loop-place
invariant-loop-place l = record {
  from : l.from ≤ l.place;
  within : l.place ≤ length l.initial.numbers;
  len : length l.numbers ≡ length l.initial.numbers;
  before : (i : ℕ) → i < l.from → get_or l.numbers i 0 ≡ get_or l.initial.numbers i 0;
  whole : IsSector l.sector;
  set : SetsListed l.numbers l.k l.from l.place l.initial.sector l.sector;
}
