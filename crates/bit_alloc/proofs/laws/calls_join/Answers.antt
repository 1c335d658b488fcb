use Rattle.bit_alloc.proofs.Soundness.{touches_joined}
use Rattle.bit_alloc.proofs.laws.calls_join.Goals as goal

pub returns : goal.returns
returns g c = λ p n a b j k old mid new. touches_joined p n a b j k (g.S.Sectors.state old) (g.S.Sectors.state mid) (g.S.Sectors.state new)
