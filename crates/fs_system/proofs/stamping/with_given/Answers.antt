use Rattle.std.proofs.Common.{refl}
use Rattle.fs_system.proofs.StampedNodes.{given_is}
use Rattle.fs_system.proofs.stamping.with_given.Goals as goal

pub returns : goal.returns
returns c =
    given_is c.args.atime c.args.mtime c.args.ctime c.args.inode.now _
    (rw c.unwrap_or.ensures (rw c.unwrap_or-2.ensures (rw c.unwrap_or-3.ensures refl)))
