use Rattle.fuse_sessions.proofs.Doings.{then-fails, then-ok}
use Rattle.fuse_sessions.proofs.session.Session.list_hides.Goals as goal

pub returns-in_err-status-clause-did : goal.returns-in_err-status-clause-did
returns-in_err-status-clause-did g c = then-fails _ c.from_residual.ensures c.in_err-status.ensures.did

pub returns-clause-did : goal.returns-clause-did
returns-clause-did g c = then-ok _ c.in_ok-status.ensures.did c.asks_list.ensures.did
