use Rattle.std.proofs.Common.{refl}
use Rattle.host_trees.specs.Copies.{ArePacking}
use Rattle.fs_program.specs.Copying.{cannot_make, cannot_mount, has_packed}
use Rattle.fs_program.proofs.Copied.{copies_on}
use Rattle.fs_program.proofs.Ends.{refuses_nothing}
use Rattle.fs_program.proofs.copying.pack_on_disk.Goals as goal

pub returns-in-Err : goal.returns-in-Err
returns-in-Err g c =
    let none = refuses_nothing c.args.geometry.version (g.D.Disk.state c.args.disk).size c.args.geometry.inodes c.args.geometry c.requires in
    cannot_make c.mkfs.new.disk c.in-Err.fault (c.in-Err.ensures.fault none) refl

pub returns-in-Ok : goal.returns-in-Ok
returns-in-Ok g c =
    let e = c.pack_mounted.ensures in
    has_packed c.mkfs.new.disk e.copied e.reply c.in_default.ensures.made c.in_default.ensures.stable
    (copies_on g.D.Disk.state c.mkfs.new.disk e.left c.in-Ok.fs e.now (λ asked. ArePacking asked e.copied) e.reply c.in-Ok.ensures.mounted e.copies e.unmounts)
    e.is_end

pub returns : goal.returns
returns g c =
    cannot_mount c.mkfs.new.disk c.in-Err-mount.field-0-1 c.in-Err-mount.fault c.in_default.ensures.made c.in_default.ensures.stable
    c.in-Err-mount.ensures.failed refl
