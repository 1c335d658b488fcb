use Rattle.std.proofs.Common.{◌<◌, subst, arith, IsTrue}
use Rattle.fs_layout.specs.Bytes.{SectorMap}
use Rattle.fs_layout.specs.Images.{bit}
use Rattle.bit_alloc.specs.Bitmaps.{first_sector}
use Rattle.bit_alloc.proofs.Transactions.{map_unchanged}
use Rattle.storage_tests.proofs.tests.bitmaps.has_rest_set.Goals as goal

pub returns-clause-set : goal.returns-clause-set
returns-clause-set g c = λ yes n low ban.
    let past : n < c.loop-n.n = omega (arith, low, c.count_bits-n-end.ensures, c.loop-n-test.false) in
    subst (λ (image : SectorMap). IsTrue (bit image (first_sector c.args.geometry c.args.map) n)) (map_unchanged c.loop-n.invariant.same) (c.loop-n.invariant.set n past ban)
