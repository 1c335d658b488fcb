use Rattle.std.proofs.Common.{refl}
use Rattle.fs_program.specs.Jobs.{says, says_nothing}
use Rattle.fs_info.specs.InfoTexts.{info_text}
use Rattle.fs_program.specs.Streams.{writing}
use Rattle.fs_command.specs.declared.status.Status.TheVariants.{Done}
use Rattle.fs_program.proofs.Ends.{tells}
use Rattle.fs_program.proofs.disks.describe_disk.Goals as goal

pub returns-in-Ok-clause-ends : goal.returns-in-Ok-clause-ends
returns-in-Ok-clause-ends g c =
    says c.in-Ok.info c.in-Ok.ensures.info
    (tells (writing g.O.Write.contents c.args.out.now c.print_info.new.out) (info_text c.args.json c.in-Ok.info) c.print_info.result Done c.written.result
    c.print_info.ensures c.written.ensures)

pub returns-in-Err-clause-ends : goal.returns-in-Err-clause-ends
returns-in-Err-clause-ends g c = says_nothing c.in-Err.fault c.in-Err.ensures.fault (refl, refl)
