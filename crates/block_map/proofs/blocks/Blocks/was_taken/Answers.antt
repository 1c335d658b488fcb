use Rattle.std.proofs.Common.{refl}
use Rattle.fs_layout.specs.Bytes.{zeros}
use Rattle.block_map.proofs.blocks.Blocks.was_taken.Goals as goal

pub returns-then-level-eq1 : goal.returns-then-level-eq1
unfolding zeros
returns-then-level-eq1 c = record { inode = refl; near = refl; here = λ e. (refl, refl, refl); others = λ ne. absurd (ne c.if-level-eq1.true) }
