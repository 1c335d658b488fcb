-- What is promised where a session performs a plan.
--     Answered        a session has answered a request
use Rattle.std.specs.Prelude.{true}
use Rattle.fs_model.specs.declared.event.Event.{Event}
use Rattle.fs_model.specs.declared.reply.Reply.{Reply}
use Rattle.fuse_plans.specs.declared.reply.Response.{Response}
use Rattle.fuse_sessions.specs.declared.session.Session.{Session}
use Rattle.fuse_plans.specs.Plans.{CarriesOut}
use Rattle.fuse_plans.specs.Serving.{Task, answered}

-- The machine goes on by just what the plan asks, if it asks anything, and the answer is its result.
pub record Answered {M : Type 0} (Serves : M → Event → Reply → M → Type 0) (plan : Task) (old new : Session M)
    (response : Response) : Type 0 where
  pub performs : CarriesOut Serves (answered true plan old.server.server) old.machine new.machine (response, new.server.server)
