use Rattle.bit_alloc.proofs.Soundness.{spare_first}
use Rattle.bit_alloc.proofs.laws.spare_at_first.Goals as goal

pub returns : goal.returns
returns g c = λ p txn. spare_first p (g.S.Sectors.state txn)
