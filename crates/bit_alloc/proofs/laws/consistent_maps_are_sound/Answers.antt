use Rattle.bit_alloc.proofs.Soundness.{sound_from}
use Rattle.bit_alloc.proofs.laws.consistent_maps_are_sound.Goals as goal

pub returns : goal.returns
returns g c = λ p txn. sound_from p (g.S.Sectors.state txn)
