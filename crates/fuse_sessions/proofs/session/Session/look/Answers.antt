use Rattle.fuse_plans.specs.Callers.{look}
use Rattle.fuse_sessions.proofs.Doings.{then-matches}
use Rattle.fuse_sessions.proofs.session.Session.look.Goals as goal

pub returns-clause-did : goal.returns-clause-did
unfolding look
returns-clause-did g c = then-matches _ (rw c.empty_path.ensures at c.on_own-reply.ensures.did) c.shown.ensures
