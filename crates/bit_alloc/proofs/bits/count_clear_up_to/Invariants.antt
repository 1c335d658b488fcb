use Rattle.std.proofs.Common.{◌≡◌, ◌≤◌, ◌*◌}
use Rattle.bit_alloc.specs.Bits.{clear_below}
use Rattle.bit_alloc.proofs.bits.count_clear_up_to.Given as goal

abbrev pub invariant-loop-k : goal.invariant-loop-k
invariant-loop-k l = record { counted : l.free ≡ clear_below (λ _. l.sector) 0 (512 * l.k); few : l.free ≤ 512 * l.k }
