use Rattle.std.proofs.Common.{◌%◌, ℕ, nat_eq, ap, ◌∙◌}
use Rattle.std.proofs.lemmas.Nat.Bits.{shr_and_one}
use Rattle.fs_check.proofs.BitTests.{bit_there}
use Rattle.fs_info.proofs.counting.has_bit.Goals as goal

pub returns : goal.returns
returns c = λ m start there. ap (λ (k : ℕ). nat_eq k 1) (shr_and_one _ (c.args.n % 8)) ∙ bit_there m start c.args.n c.args.map.now there
