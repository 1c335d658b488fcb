use Rattle.fs_program.specs.Jobs.{upgrades}
use Rattle.fs_program.proofs.jobs.upgrade_image.Goals as goal

pub returns : goal.returns
returns g c =
    upgrades c.in_ok-disk.disk c.upgrade_disk.new.disk c.in_ok-disk.ensures c.upgrade_disk.ensures.any_moment c.upgrade_disk.ensures.ends
