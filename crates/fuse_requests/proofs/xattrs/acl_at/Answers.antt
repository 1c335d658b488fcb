use Rattle.fuse_plans.specs.AclPlans.{acl_at}
use Rattle.fuse_sessions.proofs.Doings.{attempts, gives, reads-last, then-fails, then-ok}
use Rattle.std.proofs.Common.{refl}
use Rattle.fuse_requests.proofs.xattrs.acl_at.Goals as goal

pub returns-in-Ok : goal.returns-in-Ok
unfolding acl_at
returns-in-Ok g c = then-ok _ (attempts _ c.in-Ok.ensures.did) (gives _ _)

pub returns-in_err-_removed-in-Err : goal.returns-in_err-_removed-in-Err
unfolding acl_at
returns-in_err-_removed-in-Err g c =
    then-ok _ (attempts _ c.in-Err.ensures.did) (then-fails _ c.from_residual.ensures c.in_err-_removed-in-Err.ensures)

pub returns-in_ok-_removed-in-Err : goal.returns-in_ok-_removed-in-Err
unfolding acl_at
returns-in_ok-_removed-in-Err g c =
    then-ok _ (attempts _ c.in-Err.ensures.did) (then-ok _ c.in_ok-_removed-in-Err.ensures (reads-last _ _ refl))
