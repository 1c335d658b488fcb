use Rattle.std.proofs.Common.{refl}
use Rattle.fs_layout.specs.Bytes.{zeros}
use Rattle.block_map.proofs.Numbers.{no_sector_at}
use Rattle.block_map.proofs.blocks.Blocks.new.Goals as goal

pub returns-clause-at_hand : goal.returns-clause-at_hand
unfolding zeros
returns-clause-at_hand c = λ image. record { number = no_sector_at image c.args.inode.now; is = λ some. absurd (some refl); none = λ e. refl }
