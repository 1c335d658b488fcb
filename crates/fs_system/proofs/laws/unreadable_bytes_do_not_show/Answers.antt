use Rattle.fs_system.proofs.Confined.{not_shown}
use Rattle.fs_system.proofs.laws.unreadable_bytes_do_not_show.Goals as goal

pub returns : goal.returns
returns g c = not_shown g.D.Disk.state g.E.Disk.state
