use Rattle.fuse_plans.specs.NamePlans.{tell_made}
use Rattle.fuse_sessions.proofs.Doings.{keeps}
use Rattle.std.proofs.Common.{refl}
use Rattle.fuse_requests.proofs.names.tell_made.Goals as goal

pub returns : goal.returns
unfolding tell_made
returns g c = keeps _ _ refl c.note_made.ensures.kept c.tell_named.ensures
