use Rattle.bit_alloc.proofs.Transactions.{bitmaps_unchanged}
use Rattle.storage_tests.proofs.tests.blocks.free.Goals as goal

pub count_free-requires-2 : goal.count_free-requires-2
count_free-requires-2 g c = bitmaps_unchanged c.args.geometry (g.S.Sectors.state c.args.s.now) (g.S.Sectors.state c.count_free.new.s) c.requires c.in_ok-inodes.ensures.same
