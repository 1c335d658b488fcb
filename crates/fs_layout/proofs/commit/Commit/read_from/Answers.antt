use Rattle.std.proofs.Common.{arith}
use Rattle.fs_layout.proofs.Codecs.{reads_whole}
use Rattle.fs_layout.proofs.CommitLaw.{commit_codec}
use Rattle.fs_layout.proofs.commit.Commit.read_from.Goals as goal

pub returns : goal.returns
returns c =
    let read = reads_whole commit_codec c.args.from.now c.args.at _ c.get.result c.requires (omega arith) (omega arith) c.fits-from c.get.ensures in
    record { found = read.found; only = read.only; first_fault = read.first_fault }
