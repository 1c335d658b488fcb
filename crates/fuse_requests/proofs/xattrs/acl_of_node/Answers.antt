use Rattle.fuse_sessions.proofs.Doings.{then-fails, then-ok}
use Rattle.fuse_requests.proofs.xattrs.acl_of_node.Goals as goal

pub returns-in_err-ino-clause-did : goal.returns-in_err-ino-clause-did
returns-in_err-ino-clause-did g c = then-fails _ c.from_residual.ensures c.in_err-ino.ensures

pub returns-clause-did : goal.returns-clause-did
returns-clause-did g c = then-ok _ c.in_ok-ino.ensures c.acl_of.ensures.did
