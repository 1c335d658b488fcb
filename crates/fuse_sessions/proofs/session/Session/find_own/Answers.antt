use Rattle.fuse_sessions.proofs.Doings.{attempts, then-ok}
use Rattle.fuse_sessions.proofs.session.Session.find_own.Goals as goal

pub returns-clause-did : goal.returns-clause-did
returns-clause-did g c = then-ok _ (attempts _ c.look_inside_own-seen.ensures.did) c.found_or_absent.ensures.did
