use Rattle.std.proofs.Common.{subst}
use Rattle.fs_model.specs.declared.event.Actor.{Actor}
use Rattle.fs_model.specs.declared.event.Event.TheVariants.{CallAt}
use Rattle.fuse_plans.specs.Callers.{inside}
use Rattle.fuse_plans.specs.Works.{obtain}
use Rattle.fuse_steps.specs.Performing.{DidByMachine}
use Rattle.fuse_steps.proofs.asker.inside.Goals as goal

pub returns : goal.returns
unfolding inside
returns g c =
    subst (λ (a : Actor). DidByMachine g.M.Machine.Serves (obtain (CallAt a c.args.call.now)) c.args.machine.now c.obtain_at.new.machine c.obtain_at.result)
    c.requires c.obtain_at.ensures
