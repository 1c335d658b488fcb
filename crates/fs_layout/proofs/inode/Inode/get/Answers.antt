use Rattle.std.proofs.Common.{arith}
use Rattle.std.proofs.lemmas.Grind.{common_steps}
use Rattle.fs_layout.specs.Inode.{inode_of}
use Rattle.fs_layout.proofs.inode.Inode.get.Goals as goal

pub returns : goal.returns
unfolding inode_of
returns c = grind (arith, common_steps)
