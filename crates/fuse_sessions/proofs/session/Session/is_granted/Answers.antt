use Rattle.fuse_plans.specs.Nobody.{is_granted}
use Rattle.fuse_sessions.proofs.Doings.{gives-as, then-fails, then-ok}
use Rattle.fuse_sessions.proofs.session.Session.is_granted.Goals as goal

pub returns-in_err-ino-clause-did : goal.returns-in_err-ino-clause-did
unfolding is_granted
returns-in_err-ino-clause-did g c = then-fails _ c.from_residual.ensures c.in_err-ino.ensures

pub returns-in_err-status-clause-did : goal.returns-in_err-status-clause-did
unfolding is_granted
returns-in_err-status-clause-did g c = then-ok _ c.in_ok-ino.ensures (then-fails _ c.from_residual-in_err-status.ensures c.in_err-status.ensures.did)

pub returns-in_err-acl-clause-did : goal.returns-in_err-acl-clause-did
unfolding is_granted
returns-in_err-acl-clause-did g c =
    then-ok _ c.in_ok-ino.ensures (then-ok _ c.in_ok-status.ensures.did (then-fails _ c.from_residual-in_err-acl.ensures c.in_err-acl.ensures.did))

pub returns-clause-did : goal.returns-clause-did
unfolding is_granted
returns-clause-did g c =
    then-ok _ c.in_ok-ino.ensures (then-ok _ c.in_ok-status.ensures.did (then-ok _ c.in_ok-acl.ensures.did (gives-as c.granted_by.ensures)))
