use Rattle.std.proofs.Common.{refl, ◌+◌, ◌*◌}
use Rattle.fs_layout.proofs.Writes.{nothing_written, put_one_more}
use Rattle.fs_layout.proofs.bytes.put_u32s.Goals as goal

pub loop-i-init : goal.loop-i-init
loop-i-init c = nothing_written c.args.to.now c.args.at

pub loop-i-preserved : goal.loop-i-preserved
loop-i-preserved c =
    put_one_more c.args.to.now c.loop-i.to c.put_u32.new.to c.args.xs.now c.args.at c.loop-i.i (c.args.at + 4 * c.loop-i.i)
    c.requires c.loop-i-test.true refl c.loop-i.invariant c.put_u32.ensures
