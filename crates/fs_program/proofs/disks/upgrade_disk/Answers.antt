use Rattle.std.proofs.Common.{refl}
use Rattle.fs_program.specs.Jobs.{cannot_upgrade, is_upgraded}
use Rattle.fs_program.specs.Streams.{writing}
use Rattle.fs_program.specs.Texts.{version_text}
use Rattle.fs_command.specs.declared.status.Status.TheVariants.{Done}
use Rattle.fs_program.proofs.Ends.{tells}
use Rattle.fs_program.proofs.disks.upgrade_disk.Goals as goal

pub returns-in-Err-clause-ends : goal.returns-in-Err-clause-ends
returns-in-Err-clause-ends g c = cannot_upgrade c.in-Err.fault c.in-Err.ensures.failed (refl, refl)

pub returns-in-Ok-clause-ends : goal.returns-in-Ok-clause-ends
returns-in-Ok-clause-ends g c =
    is_upgraded c.in-Ok.version c.in-Ok.ensures.upgraded
    (tells (writing g.O.Write.contents c.args.out.now c.print_version.new.out) (version_text c.in-Ok.version) c.print_version.result Done c.written.result
    c.print_version.ensures c.written.ensures)
