use Rattle.std.proofs.Common.{◌+◌}
use Rattle.fs_images.specs.NewTables.{is_outside}
use Rattle.fs_images.proofs.MakingTables.{IsFilledBelow}
use Rattle.fs_images.proofs.new_tables.bitmap_sector.Given as goal

abbrev pub invariant-loop-i : goal.invariant-loop-i
invariant-loop-i l = IsFilledBelow (λ n. is_outside l.low l.high (l.first + n)) l.i l.content
