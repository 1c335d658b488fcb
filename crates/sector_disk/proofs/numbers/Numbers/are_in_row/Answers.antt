use Rattle.std.proofs.Common.{arith}
use Rattle.sector_disk.proofs.Sparse.{index_small, row_read}
use Rattle.sector_disk.proofs.numbers.Numbers.are_in_row.Goals as goal

pub overflow_add-first : goal.overflow_add-first
overflow_add-first c =
    let i = c.self.inside in
    let small =
    index_small i.count i.blocks.items i.stored.items c.args.self.now c.args.first c.args.len c.loop-i.i c.self.invariant c.self.view_is c.requires.fits
    c.loop-i-test.true in
    omega (arith, small)

pub returns : goal.returns
returns c =
    let all = c.loop-i-test.false in
    λ _. row_read c.args.self.now c.args.first c.args.len c.args.start (λ k early. c.loop-i.invariant k (omega (arith, early, all)))
