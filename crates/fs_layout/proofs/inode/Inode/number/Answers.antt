use Rattle.std.proofs.Common.{◌∙◌, arith}
use Rattle.fs_layout.proofs.Pointers.{number_is}
use Rattle.fs_layout.proofs.inode.Inode.number.Goals as goal

pub returns : goal.returns
returns c = λ image h. c.number_in.ensures ∙ number_is image c.args.self.now c.args.level c.args.content.now c.args.i (omega arith) h
