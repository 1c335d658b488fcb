use Rattle.std.proofs.Common.{◌-◌}
use Rattle.fs_layout.specs.declared.inode.TheConstants.{POINTER_LEVELS}
use Rattle.fs_check.proofs.owning.Pointers.+number.Given as goal

abbrev pub decreases-number : goal.decreases-number
decreases-number g l = POINTER_LEVELS - l.level
