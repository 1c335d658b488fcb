use Rattle.std.proofs.Common.{refl}
use Rattle.fs_program.specs.Answering.{is_not_mounted, was_asked}
use Rattle.fs_program.proofs.Answered.{answers_on}
use Rattle.fs_program.proofs.answering.answer_on_disk.Goals as goal

pub returns-in-Ok : goal.returns-in-Ok
returns-in-Ok g c =
    let e = c.answer_mounted.ensures in
    was_asked e.found (answers_on g.D.Disk.state c.args.disk c.in-Ok.fs c.args.question.now e.found c.in-Ok.ensures.mounted e.answers) e.told

pub returns : goal.returns
returns g c = is_not_mounted c.in-Err.field-0-1 c.in-Err.fault c.in-Err.ensures.failed (refl, refl)
