use Rattle.fuse_plans.specs.Serving.{end}
use Rattle.fuse_sessions.proofs.Doings.{keeps}
use Rattle.std.proofs.Common.{refl}
use Rattle.fuse_requests.proofs.whole.end.Goals as goal

pub returns-clause-did : goal.returns-clause-did
unfolding end
returns-clause-did g c = keeps _ _ refl c.end.ensures.kept c.sync_all.ensures.did
