use Rattle.std.proofs.Common.{arith}
use Rattle.fs_layout.specs.declared.inode.TheConstants.{INODE_SIZE}
use Rattle.fs_layout.proofs.Codecs.{reads_part}
use Rattle.fs_layout.proofs.InodeLaw.{inode_codec}
use Rattle.fs_layout.proofs.inode.Inode.read_any.Goals as goal

pub returns : goal.returns
returns c =
    let read = reads_part INODE_SIZE inode_codec c.args.from.now c.args.at _ c.get.result (omega arith) (omega arith) c.fits-from c.get.ensures in
    record { found = read.found; only = read.only; first_fault = read.first_fault }
