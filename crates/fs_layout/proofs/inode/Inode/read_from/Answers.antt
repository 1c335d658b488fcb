use Rattle.std.proofs.Common.{arith}
use Rattle.fs_layout.specs.declared.inode.TheConstants.{INODE_SIZE}
use Rattle.fs_layout.proofs.Codecs.{reads_part}
use Rattle.fs_layout.proofs.InodeLaw.{older_codec}
use Rattle.fs_layout.proofs.inode.Inode.read_from.Goals as goal

pub returns : goal.returns
returns c =
    let read = reads_part INODE_SIZE older_codec c.args.from.now c.args.at _ c.get_older.result (omega arith) (omega arith) c.fits-from c.get_older.ensures in
    record { found = read.found; only = read.only; first_fault = read.first_fault }
