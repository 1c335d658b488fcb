use Rattle.std.proofs.Common.{arith}
use Rattle.fs_layout.proofs.Entries.{get_more, none_read}
use Rattle.fs_layout.proofs.acl_sector.get_entries.Goals as goal

pub loop-i-init : goal.loop-i-init
loop-i-init c = none_read c.args.from.now c.args.at

pub loop-i-preserved : goal.loop-i-preserved
loop-i-preserved c = get_more c.args.from.now c.loop-i.to c.args.at c.loop-i.i c.get_entry.result (omega arith) c.loop-i.invariant c.get_entry.ensures
