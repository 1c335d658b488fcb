use Rattle.fuse_sessions.proofs.Doings.{of-result, then-fails, then-ok}
use Rattle.fuse_requests.proofs.xattrs.remove_xattr.Goals as goal

pub returns-in_err-which : goal.returns-in_err-which
returns-in_err-which g c = then-fails _ c.from_residual.ensures (of-result c.in_err-which.ensures)

pub returns : goal.returns
returns g c = then-ok _ (of-result c.in_ok-which.ensures) (c.set_acl.ensures)
