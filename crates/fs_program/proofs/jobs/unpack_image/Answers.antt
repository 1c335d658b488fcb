use Rattle.fs_program.specs.Copying.{unpacks}
use Rattle.fs_program.proofs.jobs.unpack_image.Goals as goal

pub returns : goal.returns
returns g c = unpacks c.in_ok-disk.disk c.in_ok-disk.ensures c.unpack_on_disk.ensures
