use Rattle.fs_program.specs.Answering.{asks}
use Rattle.fs_program.proofs.jobs.ask_image.Goals as goal

pub returns : goal.returns
returns g c = asks c.in_ok-disk.disk c.in_ok-disk.ensures c.answer_on_disk.ensures
