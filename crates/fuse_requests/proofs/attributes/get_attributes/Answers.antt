use Rattle.fuse_sessions.proofs.Doings.{attempts, gives, reads-last, then-fails, then-ok}
use Rattle.fuse_requests.proofs.attributes.get_attributes.Goals as goal

pub returns-in-Ok : goal.returns-in-Ok
returns-in-Ok g c = then-ok _ (attempts _ c.in-Ok.ensures) (gives _ _)

pub returns-in_err-removed-in-Err : goal.returns-in_err-removed-in-Err
returns-in_err-removed-in-Err g c =
    then-ok _ (attempts _ c.in-Err.ensures) (then-fails _ c.from_residual.ensures c.in_err-removed-in-Err.ensures)

pub returns-in_ok-removed-in-Err : goal.returns-in_ok-removed-in-Err
returns-in_ok-removed-in-Err g c =
    then-ok _ (attempts _ c.in-Err.ensures) (then-ok _ c.in_ok-removed-in-Err.ensures (reads-last _ _ c.removed_body.ensures))
