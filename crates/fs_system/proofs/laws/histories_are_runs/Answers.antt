use Rattle.fs_system.proofs.Runs.{histories_are_runs}
use Rattle.fs_system.proofs.laws.histories_are_runs.Goals as goal

pub returns : goal.returns
returns g c = histories_are_runs g.D.Disk.state g.met.D.Disk.counts_now
