use Rattle.std.proofs.Common.{subst, Ok}
use Rattle.fs_access.specs.Sentences.{told_text}
use Rattle.fs_command.specs.declared.status.Status.{Status}
use Rattle.fs_program.specs.Streams.{writing}
use Rattle.fs_program.specs.Tellings.{Tells}
use Rattle.fs_program.proofs.Ends.{tells}
use Rattle.fs_program.proofs.answering.tell_answer.Goals as goal

pub returns : goal.returns
returns g c =
    let w = writing g.O.Write.contents c.args.out.now c.print_answer-printed.new.out in
    let line = told_text c.args.json c.args.question.now c.args.answer.now in
    subst (λ (s : Status). Tells w line s (Ok c.written.result)) c.status_of.ensures
    (tells w line c.print_answer-printed.result c.status_of.result c.written.result c.print_answer-printed.ensures c.written.ensures)
