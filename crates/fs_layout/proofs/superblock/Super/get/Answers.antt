use Rattle.std.proofs.Common.{arith}
use Rattle.std.proofs.lemmas.Grind.{common_steps}
use Rattle.fs_layout.specs.Superblock.{super_of}
use Rattle.fs_layout.proofs.superblock.Super.get.Goals as goal

pub returns : goal.returns
unfolding super_of
returns c = grind (arith, common_steps)
