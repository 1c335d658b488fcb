use Rattle.fuse_sessions.proofs.Doings.{needs-none, needs-some, of-result, then-fails, then-ok}
use Rattle.fuse_requests.proofs.xattrs.set_xattr.Goals as goal

pub returns-in_err-which : goal.returns-in_err-which
returns-in_err-which g c = then-fails _ c.from_residual.ensures (of-result c.in_err-which.ensures)

pub returns-in_default : goal.returns-in_default
returns-in_default g c = then-ok _ (of-result c.in_ok-which.ensures) (needs-none _ _ _ c.in_default.is)

pub returns : goal.returns
returns g c = then-ok _ (of-result c.in_ok-which.ensures) (needs-some _ _ c.in-Some.is (c.set_acl.ensures))
