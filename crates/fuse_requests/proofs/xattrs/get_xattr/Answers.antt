use Rattle.fuse_sessions.proofs.Doings.{of-result, then-fails, then-ok}
use Rattle.fuse_requests.proofs.xattrs.get_xattr.Goals as goal

pub returns-in_err-which : goal.returns-in_err-which
returns-in_err-which g c = then-fails _ c.from_residual.ensures (of-result c.in_err-which.ensures)

pub returns-in_err-found : goal.returns-in_err-found
returns-in_err-found g c =
    then-ok _ (of-result c.in_ok-which.ensures) (then-fails _ c.from_residual-in_err-found.ensures c.in_err-found.ensures)

pub returns : goal.returns
returns g c = then-ok _ (of-result c.in_ok-which.ensures) (then-ok _ c.in_ok-found.ensures (of-result c.tell_acl.ensures))
