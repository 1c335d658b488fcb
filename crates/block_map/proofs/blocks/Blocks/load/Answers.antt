use Rattle.std.proofs.Common.{refl, arith}
use Rattle.block_map.proofs.Numbers.{at_hand_of}
use Rattle.block_map.proofs.blocks.Blocks.load.Goals as goal

pub returns-then-k-lt-DIRECT_BLOCKS-clause-loaded : goal.returns-then-k-lt-DIRECT_BLOCKS-clause-loaded
returns-then-k-lt-DIRECT_BLOCKS-clause-loaded g c = record { at_hand = c.requires.at_hand; index = λ ge. absurd (omega (arith, ge, c.if-k-lt-DIRECT_BLOCKS.true)) }

pub returns-clause-loaded : goal.returns-clause-loaded
returns-clause-loaded g c = record { at_hand = at_hand_of _ c.in_ok-self.ensures.number c.in_ok-self.ensures.content; index = λ ge. refl }
