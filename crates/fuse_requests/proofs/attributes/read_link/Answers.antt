use Rattle.fuse_sessions.proofs.Doings.{then-fails, then-ok}
use Rattle.fuse_requests.proofs.attributes.read_link.Goals as goal

pub returns-in_err-ino : goal.returns-in_err-ino
returns-in_err-ino g c = then-fails _ c.from_residual.ensures c.in_err-ino.ensures

pub returns : goal.returns
returns g c = then-ok _ c.in_ok-ino.ensures (c.tell_target.ensures)
