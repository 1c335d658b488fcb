use Rattle.bit_alloc.proofs.Vectors.{lane_is_word}
use Rattle.bit_alloc.proofs.bits.lanes.Goals as goal

pub returns : goal.returns
returns c = λ j lt. lane_is_word c.args.sector.now (λ i. (c.type_inv.sector i).fits) c.args.k j lt c.requires
