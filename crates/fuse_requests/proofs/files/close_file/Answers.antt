use Rattle.fuse_sessions.proofs.Doings.{gives, on-machine, then-fails, then-ok}
use Rattle.fuse_requests.proofs.files.close_file.Goals as goal

pub returns-in_err-obtain_by_once : goal.returns-in_err-obtain_by_once
returns-in_err-obtain_by_once g c = then-fails _ c.from_residual.ensures (on-machine c.in_err-obtain_by_once.ensures)

pub returns : goal.returns
returns g c = then-ok _ (on-machine c.in_ok-obtain_by_once.ensures) (gives _ _)
