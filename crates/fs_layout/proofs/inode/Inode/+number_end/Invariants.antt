use Rattle.std.proofs.Common.{◌+◌, ◌-◌}
use Rattle.fs_layout.specs.declared.inode.TheConstants.{POINTER_LEVELS}
use Rattle.fs_layout.proofs.inode.Inode.+number_end.Given as goal

abbrev pub decreases-number_end : goal.decreases-number_end
decreases-number_end l = POINTER_LEVELS + 1 - l.level
