use Rattle.std.proofs.Common.{◌+◌}
use Rattle.fs_images.specs.NewTables.{is_outside}
use Rattle.fs_images.proofs.MakingTables.{IsFilled}
use Rattle.fs_images.proofs.new_tables.bitmap_byte.Given as goal

abbrev pub invariant-loop-k : goal.invariant-loop-k
invariant-loop-k l = IsFilled (λ k. is_outside l.low l.high (l.first + k)) l.k l.byte
