use Rattle.std.proofs.Common.{◌-◌, ◌^◌, arith}
use Rattle.bit_alloc.proofs.Vectors.{none_differs}
use Rattle.bit_alloc.proofs.bits.are_full.Goals as goal

pub returns : goal.returns
returns c = none_differs c.args.words 8 (2 ^ 64 - 1) c.fits-words.0 (omega arith)
