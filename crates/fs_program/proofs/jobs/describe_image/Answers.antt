use Rattle.fs_program.specs.Jobs.{describes}
use Rattle.fs_program.proofs.jobs.describe_image.Goals as goal

pub returns : goal.returns
returns g c = describes c.in_ok-disk.disk c.describe_disk.new.disk c.in_ok-disk.ensures c.describe_disk.ensures.reads c.describe_disk.ensures.ends
