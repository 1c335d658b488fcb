use Rattle.std.proofs.Common.{rules}
use Rattle.fs_check.proofs.FreeInodes.{free_is_allowed}
use Rattle.fs_check.proofs.inodes.good_inode.Goals as goal

pub returns-then-is_blank-clause-allowed : goal.returns-then-is_blank-clause-allowed
returns-then-is_blank-clause-allowed c = free_is_allowed c.args.version

pub returns-clause-free : goal.returns-clause-free
returns-clause-free c = search rules
