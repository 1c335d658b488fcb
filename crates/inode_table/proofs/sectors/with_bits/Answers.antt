use Rattle.std.proofs.Common.{arith}
use Rattle.fs_layout.proofs.OneAcl.{mode_small}
use Rattle.inode_table.proofs.sectors.with_bits.Goals as goal

pub overflow_add-result : goal.overflow_add-result
overflow_add-result c =
    let small = mode_small c.args.acl.now in
    omega (arith, small, c.mode_bits.ensures, c.ranges.mode)
