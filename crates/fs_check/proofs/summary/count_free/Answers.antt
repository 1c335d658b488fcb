use Rattle.std.proofs.Common.{arith}
use Rattle.fs_check.proofs.BitTables.{clear_before}
use Rattle.fs_check.proofs.summary.count_free.Goals as goal

pub overflow_sub-result : goal.overflow_sub-result
overflow_sub-result c =
    let all = clear_before c.args.first c.args.owned.now c.requires.within c.requires.none in
    let counted = c.count_clear.ensures in
    omega (arith, all, counted)

pub returns : goal.returns
returns c =
    let all = clear_before c.args.first c.args.owned.now c.requires.within c.requires.none in
    let counted = c.count_clear.ensures in
    omega (arith, all, counted)
