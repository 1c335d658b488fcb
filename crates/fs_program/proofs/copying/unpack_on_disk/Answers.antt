use Rattle.std.proofs.Common.{refl}
use Rattle.host_trees.specs.Copies.{AreUnpacking}
use Rattle.host_trees.proofs.Asking.{unpacking_reads}
use Rattle.fs_program.specs.Copying.{is_not_mounted, has_unpacked}
use Rattle.fs_program.proofs.Copied.{copies_on}
use Rattle.fs_program.proofs.Unpacked.{leaves_tree}
use Rattle.fs_program.proofs.copying.unpack_on_disk.Goals as goal

pub returns-in-Ok : goal.returns-in-Ok
returns-in-Ok g c =
    let e = c.unpack_mounted.ensures in
    let copies =
    copies_on g.D.Disk.state c.args.disk e.left c.in-Ok.fs e.now (λ asked. AreUnpacking asked e.copied) e.reply c.in-Ok.ensures.mounted e.copies e.unmounts in
    has_unpacked e.copied e.reply copies (leaves_tree g.D.Disk.state g.met.D.Disk.counts_now copies (unpacking_reads copies.asked e.copied copies.are)) e.is_end

pub returns : goal.returns
returns g c = is_not_mounted c.in-Err.field-0-1 c.in-Err.fault c.in-Err.ensures.failed refl
