use Rattle.fuse_plans.specs.AttributePlans.{resize_object}
use Rattle.fuse_sessions.proofs.Doings.{on-machine, same-work}
use Rattle.std.proofs.Common.{ap}
use Rattle.std.specs.Prelude.{Option, ℕ}
use Rattle.fuse_requests.proofs.attributes.resize_object.Goals as goal

pub returns-in-Some-clause-did : goal.returns-in-Some-clause-did
returns-in-Some-clause-did g c =
    same-work (ap (λ (h : Option ℕ). resize_object c.args.actor.now.cred c.args.actor.now.start c.args.size h) c.in-Some.is)
    (on-machine c.obtain_by_once.ensures)
