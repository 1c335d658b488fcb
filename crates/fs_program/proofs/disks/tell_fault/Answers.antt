use Rattle.fs_program.specs.Streams.{writing}
use Rattle.fs_program.specs.Texts.{found_text}
use Rattle.fs_command.specs.declared.status.Status.TheVariants.{Faulty}
use Rattle.fs_program.proofs.Ends.{tells}
use Rattle.fs_program.proofs.disks.tell_fault.Goals as goal

pub returns-in-Found : goal.returns-in-Found
returns-in-Found g c =
    rw c.in-Found.is
    (tells (writing g.O.Write.contents c.args.out.now c.print_found.new.out) (found_text c.args.explain c.in-Found.finding) c.print_found.result Faulty
    c.written.result c.print_found.ensures c.written.ensures)
