use Rattle.block_map.proofs.Numbers.{loaded_has}
use Rattle.block_map.proofs.blocks.Blocks.number.Goals as goal

pub returns : goal.returns
returns c = λ image l. c.number.ensures image (λ ge. loaded_has l ge)
