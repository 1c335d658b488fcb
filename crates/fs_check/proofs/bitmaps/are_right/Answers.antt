use Rattle.std.proofs.Common.{arith}
use Rattle.fs_check.proofs.BitTests.{bits_right}
use Rattle.fs_check.proofs.bitmaps.are_right.Goals as goal

pub returns : goal.returns
returns c = λ same m owners there i low lt.
    bits_right c.args.geometry m c.args.owned.now c.args.map.now c.args.k i owners there (let from = c.if-k-geometry.false in omega (arith, from, low))
    (let to = c.if-geometry-k.false in omega (arith, to, lt)) low lt (c.has_sector.ensures same i low lt)
