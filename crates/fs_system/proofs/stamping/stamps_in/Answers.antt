use Rattle.fs_system.proofs.StampedNodes.{stamps_of}
use Rattle.fs_system.proofs.stamping.stamps_in.Goals as goal

pub returns : goal.returns
returns c = stamps_of c.args.inode.now
