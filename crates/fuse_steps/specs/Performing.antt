-- What is promised where a piece of a plan is performed on a machine.
--     DidByMachine        the machine has done the work, for which nothing that is kept is read or changed
use Rattle.std.specs.Prelude.{Result}
use Rattle.fs_model.specs.declared.event.Event.{Event}
use Rattle.fs_model.specs.declared.reply.Reply.{Reply}
use Rattle.fuse_state.specs.Servers.{Server}
use Rattle.fuse_plans.specs.declared.request_error.RequestError.{RequestError}
use Rattle.fuse_plans.specs.Plans.{CarriesOut}
use Rattle.fuse_plans.specs.Works.{Work}

-- The machine goes on by just what the work asks, whatever the server keeps, and that stays.
pub record DidByMachine {M X : Type 0} (Serves : M → Event → Reply → M → Type 0) (work : Work X) (old new : M) (result : Result X RequestError) : Type 0 where
  pub performs : (s : Server) → CarriesOut Serves (work s) old new (result, s)
