use Rattle.fuse_sessions.proofs.Doings.{of-result, then-fails, then-ok}
use Rattle.fuse_requests.proofs.names.directory_for.Goals as goal

pub returns-in_err-plain_name : goal.returns-in_err-plain_name
returns-in_err-plain_name g c = then-fails _ c.from_residual.ensures (of-result c.in_err-plain_name.ensures)

pub returns : goal.returns
returns g c = then-ok _ (of-result c.in_ok-plain_name.ensures) (c.the_number.ensures)
