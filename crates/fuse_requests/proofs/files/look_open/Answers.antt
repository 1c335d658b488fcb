use Rattle.fuse_plans.specs.FilePlans.{look_open}
use Rattle.fuse_sessions.proofs.Doings.{attempts, on-machine, then-ok}
use Rattle.fuse_requests.proofs.files.look_open.Goals as goal

pub returns-clause-did : goal.returns-clause-did
unfolding look_open
returns-clause-did g c = then-ok _ (attempts _ c.show_timed-seen.ensures.did) (on-machine c.or_closed.ensures)
