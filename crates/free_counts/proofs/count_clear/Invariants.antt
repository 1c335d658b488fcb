use Rattle.std.proofs.Common.{◌≡◌, ◌*◌}
use Rattle.std.specs.Prelude.{count_by}
use Rattle.std.specs.List.{range_with_len}
use Rattle.fs_layout.specs.Images.{bit}
use Rattle.free_counts.proofs.count_clear.Given as goal

abbrev pub invariant-loop-k : goal.invariant-loop-k
invariant-loop-k l = record { counted : count_by (bit (λ _. l.sector) 0) (range_with_len 0 (64 * l.k)) ≡ l.set }
