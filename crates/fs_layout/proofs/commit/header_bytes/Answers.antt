use Rattle.std.proofs.Common.{arith}
use Rattle.fs_layout.proofs.HeaderLaw.{written_numbers}
use Rattle.fs_layout.proofs.commit.header_bytes.Goals as goal

pub returns : goal.returns
returns c = λ k low. written_numbers _ c.put_u32s.new.to c.args.targets.now k c.put_u32s.ensures (λ i. let fits = c.type_inv.targets i in omega (arith, fits)) low
