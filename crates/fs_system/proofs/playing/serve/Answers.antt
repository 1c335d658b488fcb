use Rattle.fs_system.proofs.Played.{disk_answers}
use Rattle.fs_system.proofs.playing.serve.Goals as goal

pub returns-in-Ok-clause-answers : goal.returns-in-Ok-clause-answers
returns-in-Ok-clause-answers g c = rw c.in-Ok.is (c.serve-reply.ensures)

pub returns-in-Err-clause-answers : goal.returns-in-Err-clause-answers
returns-in-Err-clause-answers g c = rw c.in-Err.is (disk_answers g.D.Disk.state c.in-Err.disk c.args.event.now c.requires.machine)
