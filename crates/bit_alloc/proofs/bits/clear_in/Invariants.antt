use Rattle.std.proofs.Common.{◌≡◌, ◌≤◌, ◌+◌, ◌*◌}
use Rattle.std.specs.Prelude.{count_by}
use Rattle.std.specs.List.{range_with_len}
use Rattle.fs_layout.specs.Images.{bit}
use Rattle.bit_alloc.proofs.bits.clear_in.Given as goal

abbrev pub invariant-loop-i : goal.invariant-loop-i
invariant-loop-i l = record {
  counted : count_by (bit (λ _. l.sector) 0) (range_with_len 0 (64 * l.i)) ≡ count_by (bit (λ _. l.sector) 0) (range_with_len 0 (512 * l.k)) + l.set;
  few : l.set + 512 * l.k ≤ 64 * l.i;
}
