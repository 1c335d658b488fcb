use Rattle.fuse_sessions.proofs.Doings.{then-fails, then-ok}
use Rattle.fuse_requests.proofs.attributes.tell_object.Goals as goal

pub returns-in_err-ino : goal.returns-in_err-ino
returns-in_err-ino g c = then-fails _ c.from_residual.ensures c.in_err-ino.ensures

pub returns-in_err-status : goal.returns-in_err-status
returns-in_err-status g c =
    then-ok _ c.in_ok-ino.ensures (then-fails _ c.from_residual-in_err-status.ensures c.in_err-status.ensures.did)

pub returns : goal.returns
returns g c = then-ok _ c.in_ok-ino.ensures (then-ok _ c.in_ok-status.ensures.did (c.tell_attributes.ensures))
