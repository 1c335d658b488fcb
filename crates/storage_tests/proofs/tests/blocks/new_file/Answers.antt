use Rattle.std.proofs.Common.{arith, refl}
use Rattle.fs_layout.specs.Inode.{inode_fits}
use Rattle.fs_layout.proofs.UsedInodes.{made_fits}
use Rattle.storage_tests.proofs.tests.blocks.new_file.Goals as goal

pub returns-clause-fits : goal.returns-clause-fits
unfolding inode_fits
returns-clause-fits c = made_fits (λ e. cc) refl (omega arith) (omega arith) (omega arith) (omega arith)
