use Rattle.std.proofs.Common.{arith}
use Rattle.fs_check.proofs.BitTables.{no_bits, new_table}
use Rattle.fs_check.proofs.bit_table.BitTable.new.Goals as goal

pub invariant_of-result : goal.invariant_of-result
invariant_of-result c =
    let items = c.in_ok-vec.ensures.items_if_clones_equal (λ y e. cc) in
    new_table c.args.size c.div_ceil.result c.in_ok-vec.field-0.items items (let d = c.div_ceil.ensures in omega (arith, d))

pub returns : goal.returns
returns c =
    let items = c.in_ok-vec.ensures.items_if_clones_equal (λ y e. cc) in
    no_bits c.args.size c.div_ceil.result c.in_ok-vec.field-0.items items
