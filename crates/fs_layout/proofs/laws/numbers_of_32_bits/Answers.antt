use Rattle.fs_layout.proofs.Numbers.{are_numbers_32}
use Rattle.fs_layout.proofs.laws.numbers_of_32_bits.Goals as goal

pub returns : goal.returns
returns c = are_numbers_32
