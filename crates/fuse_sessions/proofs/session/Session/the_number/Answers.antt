use Rattle.fuse_plans.specs.Callers.{the_number}
use Rattle.fuse_sessions.proofs.Doings.{reads-needed}
use Rattle.fuse_sessions.proofs.session.Session.the_number.Goals as goal

pub returns : goal.returns
unfolding the_number
returns g c = reads-needed _ _ _ (rw c.number_of.ensures at c.ok_or.ensures.value)
