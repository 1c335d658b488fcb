use Rattle.fuse_sessions.proofs.Doings.{then-fails, then-ok, needed-last}
use Rattle.fuse_sessions.proofs.session.Session.list_of.Goals as goal

pub returns-in_err-reply-clause-did : goal.returns-in_err-reply-clause-did
returns-in_err-reply-clause-did g c = then-fails _ c.from_residual.ensures (rw c.empty_path.ensures at c.in_err-reply.ensures.did)

pub returns-clause-did : goal.returns-clause-did
returns-clause-did g c = then-ok _ (rw c.empty_path.ensures at c.in_ok-reply.ensures.did) (needed-last _ _ (rw c.acl_of_reply.ensures at c.ok_or.ensures.value))
