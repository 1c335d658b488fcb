use Rattle.std.proofs.Common.{◌≤◌}
use Rattle.std.specs.Prelude.{length}
use Rattle.fs_layout.specs.Bytes.{IsSector}
use Rattle.bit_alloc.specs.Bits.{ClearsListed}
use Rattle.bit_alloc.proofs.bits.clear_listed.Given as goal

abbrev pub invariant-loop-i : goal.invariant-loop-i
invariant-loop-i l = record {
  from : l.from ≤ l.i;
  within : l.i ≤ length l.numbers;
  whole : IsSector l.sector;
  cleared : ClearsListed l.numbers l.k l.from l.i l.initial.sector l.sector;
}
