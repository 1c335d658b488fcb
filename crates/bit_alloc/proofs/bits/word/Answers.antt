use Rattle.std.proofs.Common.{arith}
use Rattle.std.proofs.lemmas.Grind.{common_steps}
use Rattle.fs_layout.specs.Bytes.{u64_of}
use Rattle.bit_alloc.proofs.bits.word.Goals as goal

pub returns : goal.returns
unfolding u64_of
returns c = grind (arith, common_steps)
