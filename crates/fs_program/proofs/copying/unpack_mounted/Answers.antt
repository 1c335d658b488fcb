use Rattle.fs_system.specs.Replies.{unmounted}
use Rattle.host_trees.specs.Copies.{AreUnpacking}
use Rattle.fs_program.specs.declared.failure.Failure.TheVariants.{Unpack}
use Rattle.fs_program.proofs.Copied.{mounted_ends}
use Rattle.fs_program.proofs.copying.unpack_mounted.Goals as goal

pub returns : goal.returns
returns g c =
    mounted_ends AreUnpacking Unpack c.unpack-unpacked.result.0 (unmounted c.unmount-errno.result.1) c.unpacked_end.result
    c.new.ensures c.into_fs.ensures c.unpack-unpacked.ensures.copies c.unmount-errno.ensures.does c.unpacked_end.ensures
