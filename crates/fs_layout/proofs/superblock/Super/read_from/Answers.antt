use Rattle.std.proofs.Common.{arith}
use Rattle.fs_layout.proofs.Codecs.{reads_whole}
use Rattle.fs_layout.proofs.SuperLaw.{super_codec}
use Rattle.fs_layout.proofs.superblock.Super.read_from.Goals as goal

pub returns : goal.returns
returns c =
    let read = reads_whole super_codec c.args.from.now c.args.at _ c.get.result c.requires (omega arith) (omega arith) c.fits-from c.get.ensures in
    record { found = read.found; only = read.only; first_fault = read.first_fault }
