use Rattle.bit_alloc.proofs.Soundness.{spare_then}
use Rattle.bit_alloc.proofs.laws.spare_is_left.Goals as goal

pub returns : goal.returns
returns g c = λ p n taken more rest old new spare touches. spare_then p more rest (g.S.Sectors.state old) (g.S.Sectors.state new) spare touches.puts
