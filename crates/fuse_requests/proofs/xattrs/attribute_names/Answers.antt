use Rattle.fuse_sessions.proofs.Doings.{attempts, gives-as, of-result, then-fails, then-ok}
use Rattle.fuse_requests.proofs.xattrs.attribute_names.Goals as goal

pub returns-in_err-default-in-Ok : goal.returns-in_err-default-in-Ok
returns-in_err-default-in-Ok g c =
    then-ok _ (attempts _ c.in-Ok.ensures) (then-fails _ c.from_residual.ensures c.in_err-default-in-Ok.ensures)

pub returns-in_ok-default-in-Ok : goal.returns-in_ok-default-in-Ok
returns-in_ok-default-in-Ok g c =
    then-ok _ (attempts _ c.in-Ok.ensures) (then-ok _ c.in_ok-default-in-Ok.ensures (gives-as (rw
    (c.is_some.ensures, c.is_some-in-Ok.ensures) at c.told.ensures)))

pub returns-in-Err : goal.returns-in-Err
returns-in-Err g c = then-ok _ (attempts _ c.in-Err.ensures) (of-result (c.no_names_of_link.ensures c.args.node))
