use Rattle.fs_system.proofs.Confined.{one_state}
use Rattle.fs_system.proofs.laws.a_running_system_is_in_one_state.Goals as goal

pub returns : goal.returns
returns g c = one_state g.D.Disk.state
