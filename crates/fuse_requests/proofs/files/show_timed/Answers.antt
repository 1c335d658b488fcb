use Rattle.fuse_sessions.proofs.Doings.{gives, then-fails, then-ok}
use Rattle.fuse_requests.proofs.files.show_timed.Goals as goal

pub returns-in_err-status-clause-did : goal.returns-in_err-status-clause-did
returns-in_err-status-clause-did g c = then-fails _ c.from_residual.ensures c.in_err-status.ensures.did

pub returns-in_err-stamps-clause-did : goal.returns-in_err-stamps-clause-did
returns-in_err-stamps-clause-did g c =
    then-ok _ c.in_ok-status.ensures.did (then-fails _ c.from_residual-in_err-stamps.ensures c.in_err-stamps.ensures.did)

pub returns-clause-did : goal.returns-clause-did
returns-clause-did g c = then-ok _ c.in_ok-status.ensures.did (then-ok _ c.in_ok-stamps.ensures.did (gives _ _))
