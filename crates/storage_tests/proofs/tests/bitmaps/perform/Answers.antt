use Rattle.bit_alloc.proofs.Transactions.{bitmaps_unchanged}
use Rattle.storage_tests.proofs.tests.bitmaps.perform.Goals as goal

pub returns-in-Err-Full-clause-bitmaps : goal.returns-in-Err-Full-clause-bitmaps
returns-in-Err-Full-clause-bitmaps g c = bitmaps_unchanged c.args.geometry (g.S.Sectors.state c.args.s.now) (g.S.Sectors.state c.take.new.s) c.requires.bitmaps c.in-Err-Full.ensures.unchanged

pub returns-in_ok-taken-in-IsTaken-clause-bitmaps : goal.returns-in_ok-taken-in-IsTaken-clause-bitmaps
returns-in_ok-taken-in-IsTaken-clause-bitmaps g c = bitmaps_unchanged c.args.geometry (g.S.Sectors.state c.args.s.now) (g.S.Sectors.state c.is_taken.new.s) c.requires.bitmaps c.is_taken.ensures.same

pub returns-in_ok-free-in-Count-clause-bitmaps : goal.returns-in_ok-free-in-Count-clause-bitmaps
returns-in_ok-free-in-Count-clause-bitmaps g c = bitmaps_unchanged c.args.geometry (g.S.Sectors.state c.args.s.now) (g.S.Sectors.state c.count_free.new.s) c.requires.bitmaps c.count_free.ensures.same

pub returns-in_ok-some-in-HasFree-clause-bitmaps : goal.returns-in_ok-some-in-HasFree-clause-bitmaps
returns-in_ok-some-in-HasFree-clause-bitmaps g c = bitmaps_unchanged c.args.geometry (g.S.Sectors.state c.args.s.now) (g.S.Sectors.state c.has_free.new.s) c.requires.bitmaps c.has_free.ensures.same
