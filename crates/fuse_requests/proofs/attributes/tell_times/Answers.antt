use Rattle.fuse_sessions.proofs.Doings.{then-fails, then-ok}
use Rattle.fuse_requests.proofs.attributes.tell_times.Goals as goal

pub returns-in_err-status : goal.returns-in_err-status
returns-in_err-status g c = then-fails _ c.from_residual.ensures c.in_err-status.ensures.did

pub returns-in_err-set_times : goal.returns-in_err-set_times
returns-in_err-set_times g c =
    then-ok _ c.in_ok-status.ensures.did (then-fails _ c.from_residual-in_err-set_times.ensures c.in_err-set_times.ensures)

pub returns : goal.returns
returns g c = then-ok _ c.in_ok-status.ensures.did (then-ok _ c.in_ok-set_times.ensures (c.tell_attributes.ensures))
