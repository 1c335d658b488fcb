use Rattle.std.proofs.Common.{arith}
use Rattle.fs_check.proofs.FreeSectors.{zeros_are_free}
use Rattle.fs_check.proofs.inodes.is_blank_sector.Goals as goal

pub returns : goal.returns
returns c = λ t p m k other is.
    zeros_are_free p m k c.args.content.now other is c.told-content (λ i lt. c.ends_in_zeros.ensures.0 t i (omega arith) lt)
