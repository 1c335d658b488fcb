use Rattle.fs_program.specs.Streams.{writing}
use Rattle.fs_program.specs.Texts.{clean_text}
use Rattle.fs_command.specs.declared.status.Status.TheVariants.{Done}
use Rattle.fs_program.proofs.Ends.{tells}
use Rattle.fs_program.proofs.disks.tell_check.Goals as goal

pub returns-in-Ok : goal.returns-in-Ok
returns-in-Ok g c =
    rw c.in-Ok.is
    (tells (writing g.O.Write.contents c.args.out.now c.print_summary.new.out) (clean_text c.in-Ok.summary) c.print_summary.result Done c.written.result
    c.print_summary.ensures c.written.ensures)

pub returns-in-Err : goal.returns-in-Err
returns-in-Err g c = rw c.in-Err.is c.tell_fault.ensures
