use Rattle.fs_program.specs.Serving.{serves}
use Rattle.fs_program.proofs.jobs.serve_image.Goals as goal

pub returns : goal.returns
returns g c = serves c.in_ok-disk.disk c.in_ok-disk.ensures c.serve_on_disk-served.ensures
