use Rattle.std.proofs.Common.{◌-◌}
use Rattle.fs_layout.specs.declared.inode.TheConstants.{POINTER_LEVELS}
use Rattle.fs_check.proofs.loading.+number_of.Given as goal

abbrev pub decreases-number_of : goal.decreases-number_of
decreases-number_of g l = POINTER_LEVELS - l.level
