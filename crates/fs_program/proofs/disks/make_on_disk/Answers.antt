use Rattle.std.proofs.Common.{refl, subst, Ok}
use Rattle.fs_layout.specs.declared.geometry.Geometry.{Geometry}
use Rattle.fs_layout.specs.Geometry.{new_header}
use Rattle.fs_layout.proofs.Places.{geometry_is_laid_out, is_a_geometry}
use Rattle.fs_program.specs.Jobs.{cannot_make, is_made}
use Rattle.fs_program.specs.Tellings.{Tells}
use Rattle.fs_program.specs.Streams.{writing}
use Rattle.fs_program.specs.Texts.{made_text}
use Rattle.fs_command.specs.declared.status.Status.TheVariants.{Done}
use Rattle.fs_program.proofs.Ends.{refuses_nothing, tells}
use Rattle.fs_program.proofs.disks.make_on_disk.Goals as goal

pub returns-in-Err : goal.returns-in-Err
returns-in-Err g c =
    let none = refuses_nothing c.args.geometry.version (g.D.Disk.state c.args.disk.now).size c.args.geometry.inodes c.args.geometry c.requires in
    cannot_make c.in-Err.fault (c.in-Err.ensures.fault none) (refl, refl)

pub print_made-requires : goal.print_made-requires
print_made-requires g c =
    let size = (g.D.Disk.state c.args.disk.now).size in
    is_a_geometry c.args.geometry.version (new_header c.args.geometry.version size c.args.geometry.inodes) size c.args.geometry.inodes c.requires

pub returns : goal.returns
returns g c =
    let w = writing g.O.Write.contents c.args.out.now c.print_made.new.out in
    let told = tells w (made_text c.args.geometry) c.print_made.result Done c.written.result c.print_made.ensures c.written.ensures in
    is_made c.in_default.ensures.made c.in_default.ensures.kept c.in_default.ensures.stable
    (subst (λ (p : Geometry). Tells w (made_text p) Done (Ok c.written.result))
    (geometry_is_laid_out (g.D.Disk.state c.args.disk.now).size c.args.geometry.inodes c.requires) told)
