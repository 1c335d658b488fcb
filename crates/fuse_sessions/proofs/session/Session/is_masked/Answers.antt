use Rattle.fuse_plans.specs.Masks.{is_masked}
use Rattle.fuse_sessions.proofs.Doings.{then-fails, then-ok}
use Rattle.fuse_sessions.proofs.session.Session.is_masked.Goals as goal

pub returns-in_err-ino-clause-did : goal.returns-in_err-ino-clause-did
unfolding is_masked
returns-in_err-ino-clause-did g c = then-fails _ c.from_residual.ensures c.in_err-ino.ensures

pub returns-clause-did : goal.returns-clause-did
unfolding is_masked
returns-clause-did g c = then-ok _ c.in_ok-ino.ensures c.list_hides.ensures.did
