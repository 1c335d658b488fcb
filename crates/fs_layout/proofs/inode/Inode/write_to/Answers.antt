use Rattle.std.proofs.Common.{arith}
use Rattle.fs_layout.proofs.Writes.{part_is_splice, length-inode_bytes}
use Rattle.fs_layout.proofs.inode.Inode.write_to.Goals as goal
use Rattle.fs_layout.specs.declared.inode.TheConstants.{INODE_SIZE}
use Rattle.fs_layout.specs.Inode.{inode_bytes}

pub returns : goal.returns
returns c =
    part_is_splice c.args.to.now _ (inode_bytes c.args.self.now) c.args.at _ INODE_SIZE
    (length-inode_bytes c.args.self.now (omega arith) (omega arith)) c.put.ensures (omega arith)
