use Rattle.fuse_sessions.proofs.Doings.{of-result, then-fails, then-ok}
use Rattle.fuse_requests.proofs.xattrs.list_xattrs.Goals as goal

pub returns-in_err-names : goal.returns-in_err-names
returns-in_err-names g c = then-fails _ c.from_residual.ensures c.in_err-names.ensures

pub returns : goal.returns
returns g c = then-ok _ c.in_ok-names.ensures (of-result (rw c.bytes-count.ensures.all at c.sized.ensures))
