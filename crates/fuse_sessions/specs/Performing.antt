-- What is promised where a session performs a piece of a plan.
--     Did        a session has done the work
use Rattle.std.specs.Prelude.{Result}
use Rattle.fs_model.specs.declared.event.Event.{Event}
use Rattle.fs_model.specs.declared.reply.Reply.{Reply}
use Rattle.fuse_plans.specs.declared.request_error.RequestError.{RequestError}
use Rattle.fuse_sessions.specs.declared.session.Session.{Session}
use Rattle.fuse_plans.specs.Plans.{CarriesOut}
use Rattle.fuse_plans.specs.Works.{Work}

-- The machine goes on by just what the work asks, and the server keeps what it is to keep then.
pub record Did {M X : Type 0} (Serves : M → Event → Reply → M → Type 0) (work : Work X) (old new : Session M) (result : Result X RequestError) : Type 0 where
  pub performs : CarriesOut Serves (work old.server.server) old.machine new.machine (result, new.server.server)
