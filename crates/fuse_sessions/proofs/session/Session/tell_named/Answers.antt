use Rattle.fuse_sessions.proofs.Doings.{reads-last, then-fails, then-ok}
use Rattle.fuse_sessions.proofs.session.Session.tell_named.Goals as goal

pub returns-in_err-status : goal.returns-in_err-status
returns-in_err-status g c = then-fails _ c.from_residual.ensures c.in_err-status.ensures.did

pub returns-in_err-stamps : goal.returns-in_err-stamps
returns-in_err-stamps g c = then-ok _ c.in_ok-status.ensures.did (then-fails _ c.from_residual-in_err-stamps.ensures c.in_err-stamps.ensures.did)

pub returns : goal.returns
returns g c = then-ok _ c.in_ok-status.ensures.did (then-ok _ c.in_ok-stamps.ensures.did (reads-last _ _ c.found_body.ensures))
