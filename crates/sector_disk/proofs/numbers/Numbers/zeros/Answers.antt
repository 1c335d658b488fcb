use Rattle.std.proofs.Common.{arith, ◌+◌, ◌/◌}
use Rattle.sector_disk.proofs.Sparse.{made, made_sparse, made_numbers}
use Rattle.sector_disk.proofs.numbers.Numbers.zeros.Goals as goal

pub invariant_of-result : goal.invariant_of-result
invariant_of-result c =
    made_sparse c.args.count (made (c.args.count / 1024 + 1) c.new-blocks.ensures.items c.new-blocks.ensures.len c.in_ok-resize.ensures.items)
    (made 1024 c.new-stored.ensures.items c.new-stored.ensures.len c.in_ok-resize-2.ensures.items) (omega (arith, c.ranges.count.fits))

pub returns : goal.returns
returns c =
    made_numbers c.args.count (made (c.args.count / 1024 + 1) c.new-blocks.ensures.items c.new-blocks.ensures.len c.in_ok-resize.ensures.items)
    (made 1024 c.new-stored.ensures.items c.new-stored.ensures.len c.in_ok-resize-2.ensures.items)
