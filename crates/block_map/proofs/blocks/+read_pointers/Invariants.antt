use Rattle.std.proofs.Common.{◌+◌, ◌-◌}
use Rattle.fs_layout.specs.declared.inode.TheConstants.{POINTER_LEVELS}
use Rattle.block_map.proofs.blocks.+read_pointers.Given as goal

abbrev pub decreases-read_pointers : goal.decreases-read_pointers
decreases-read_pointers g l = POINTER_LEVELS + 1 - l.level
