use Rattle.std.proofs.Common.{arith}
use Rattle.fs_layout.proofs.Writes.{get_one_more}
use Rattle.fs_layout.proofs.bytes.get_u32s.Goals as goal

pub loop-i-preserved : goal.loop-i-preserved
loop-i-preserved c = get_one_more c.args.from.now c.loop-i.to c.args.at c.loop-i.i c.u32_at.result (omega arith) c.loop-i.invariant c.u32_at.ensures
