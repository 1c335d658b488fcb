use Rattle.std.proofs.Common.{◌∙◌, arith}
use Rattle.fs_layout.proofs.Codecs.{whole_written}
use Rattle.fs_layout.proofs.superblock.Super.write_to.Goals as goal

pub returns : goal.returns
returns c = whole_written c.args.to.now _ c.args.at _ 512 c.requires.whole (omega arith) (omega arith) ∙ c.put.ensures
