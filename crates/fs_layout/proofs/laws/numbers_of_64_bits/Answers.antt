use Rattle.fs_layout.proofs.Numbers.{are_numbers_64}
use Rattle.fs_layout.proofs.laws.numbers_of_64_bits.Goals as goal

pub returns : goal.returns
returns c = are_numbers_64
