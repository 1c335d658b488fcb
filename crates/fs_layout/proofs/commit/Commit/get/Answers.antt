use Rattle.std.proofs.Common.{◌∙◌, Ok, ap, arith}
use Rattle.fs_layout.proofs.CommitLaw.{read_to_end}
use Rattle.fs_layout.proofs.commit.Commit.get.Goals as goal

pub returns : goal.returns
returns c =
    ap Ok c.new.ensures
    ∙ read_to_end c.args.from.now c.get_u32s.new.to c.u32_at.result c.u32_at-count.result c.are_zero.result
    c.u32_at.ensures (omega arith) c.u32_at-count.ensures (omega arith) c.are_zero.ensures c.if-not-are_zero.false c.get_u32s.ensures
