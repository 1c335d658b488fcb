use Rattle.fs_system.specs.Replies.{unmounted}
use Rattle.host_trees.specs.Copies.{ArePacking}
use Rattle.fs_program.specs.declared.failure.Failure.TheVariants.{Pack}
use Rattle.fs_program.proofs.Copied.{mounted_ends}
use Rattle.fs_program.proofs.copying.pack_mounted.Goals as goal

pub returns : goal.returns
returns g c =
    mounted_ends ArePacking Pack c.pack-packed.result.0 (unmounted c.unmount-errno.result.1) c.packed_end.result
    c.new.ensures c.into_fs.ensures c.pack-packed.ensures.copies c.unmount-errno.ensures.does c.packed_end.ensures
