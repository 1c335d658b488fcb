use Rattle.std.proofs.Common.{refl, arith, ◌*◌}
use Rattle.fs_layout.specs.Bytes.{le32}
use Rattle.block_map.proofs.Rewritten.{number_put}
use Rattle.block_map.proofs.blocks.write_pointer.Goals as goal

pub returns : goal.returns
unfolding le32
returns c = number_put 512 c.args.pointers.now _ (le32 c.args.number) (4 * c.args.i) 4 c.told-pointers refl c.write_u32.ensures (omega arith)
