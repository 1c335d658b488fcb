use Rattle.fuse_sessions.proofs.Doings.{when-false}
use Rattle.fuse_sessions.proofs.session.Session.tell_time_if.Goals as goal

pub returns-else-condition-clause-did : goal.returns-else-condition-clause-did
returns-else-condition-clause-did g c = when-false _ c.if-condition.false
