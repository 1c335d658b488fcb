use Rattle.std.proofs.Common.{◌*◌, ◌-◌, arith}
use Rattle.block_map.proofs.Clearings.{cleared_from, number_before, number_after}
use Rattle.block_map.proofs.size.clear_pointers.Goals as goal

pub returns-clause-before : goal.returns-clause-before
returns-clause-before c = λ i lt. number_before (cleared_from (4 * c.args.first) (512 - 4 * c.args.first) c.told-pointers (omega arith) (omega arith) (c.fill.ensures.after (λ y e. e)) (omega arith)) (4 * i) (omega (arith, lt))

pub returns-clause-after : goal.returns-clause-after
returns-clause-after c = λ i ge. number_after (cleared_from (4 * c.args.first) (512 - 4 * c.args.first) c.told-pointers (omega arith) (omega arith) (c.fill.ensures.after (λ y e. e)) (omega arith)) (4 * i) (omega (arith, ge))
