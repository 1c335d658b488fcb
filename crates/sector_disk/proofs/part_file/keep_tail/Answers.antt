use Rattle.std.proofs.Common.{arith}
use Rattle.sector_disk.proofs.Parted.{one_ended}
use Rattle.sector_disk.proofs.part_file.keep_tail.Goals as goal

pub returns-then-has_end-clause-ended : goal.returns-then-has_end-clause-ended
returns-then-has_end-clause-ended g c =
    one_ended (g.F.DiskFile.held c.args.file.now) c.args.tail.sector c.args.tail.first c.args.content.now c.args.ends.now c.add.new.self
    (let below = c.requires.below in let len = c.requires.ends_len in omega (arith, below, len)) c.in_ok-add.ensures.ok c.requires.has
    (c.has_end.ensures.zeros c.if-has_end.true) c.requires.ended

pub returns-clause-follows : goal.returns-clause-follows
returns-clause-follows g c = c.keep_sector.ensures.follows

pub returns-clause-unread : goal.returns-clause-unread
returns-clause-unread g c = c.keep_sector.ensures.unread
