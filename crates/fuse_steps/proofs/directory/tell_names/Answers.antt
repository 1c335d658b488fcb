use Rattle.fuse_plans.specs.DirectoryPlans.{tell_names}
use Rattle.fuse_steps.proofs.Steps.{machine-fails, machine-needed, machine-ok}
use Rattle.fuse_steps.proofs.directory.tell_names.Goals as goal

pub returns-in_err-reply : goal.returns-in_err-reply
unfolding tell_names
returns-in_err-reply g c = machine-fails _ c.from_residual.ensures c.in_err-reply.ensures

pub returns : goal.returns
unfolding tell_names
returns g c = machine-ok _ c.in_ok-reply.ensures (machine-needed _ _ (rw c.names_of_reply.ensures at c.ok_or.ensures.value))
