use Rattle.std.proofs.Common.{◌∙◌, ap, arith}
use Rattle.fs_layout.specs.Commit.{commit_bytes_in}
use Rattle.fs_layout.proofs.CommitLaw.{in_first}
use Rattle.fs_layout.proofs.Codecs.{whole_written}
use Rattle.fs_layout.proofs.commit.Commit.write_to.Goals as goal

pub returns : goal.returns
returns c = whole_written c.args.to.now _ c.args.at _ 512 c.requires.whole (omega arith) (omega arith) ∙ c.put.ensures ∙ ap (commit_bytes_in 0) c.targets.ensures.value ∙ in_first _
