use Rattle.fuse_sessions.proofs.Doings.{gives-as, then-fails, then-ok}
use Rattle.fuse_sessions.proofs.session.Session.acl_of.Goals as goal

pub returns-in_err-acl-clause-did : goal.returns-in_err-acl-clause-did
returns-in_err-acl-clause-did g c = then-fails _ c.from_residual.ensures c.in_err-acl.ensures.did

pub returns-clause-did : goal.returns-clause-did
returns-clause-did g c = then-ok _ c.in_ok-acl.ensures.did (gives-as c.told_acl.ensures)
