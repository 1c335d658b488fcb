use Rattle.bit_alloc.proofs.Soundness.{sound_then}
use Rattle.bit_alloc.proofs.laws.soundness_is_kept.Goals as goal

pub returns : goal.returns
returns g c = λ p n taken more old new. sound_then p n taken more (g.S.Sectors.state old) (g.S.Sectors.state new)
