use Rattle.std.proofs.Common.{rules}
use Rattle.fs_program.specs.Jobs.{runs_input, runs_file}
use Rattle.fs_program.proofs.jobs.run_image.Goals as goal

pub returns-in_default : goal.returns-in_default
returns-in_default g c = runs_input c.in_ok-disk.disk c.in_ok-disk.ensures (search rules) c.run_on_disk.ensures

pub returns-in-Ok : goal.returns-in-Ok
returns-in-Ok g c =
    runs_file c.in_ok-disk.disk c.in-Ok.file c.run_on_disk-in-Ok.new.input c.in_ok-disk.ensures (search rules)
    (rw c.new.ensures at c.run_on_disk-in-Ok.ensures)
