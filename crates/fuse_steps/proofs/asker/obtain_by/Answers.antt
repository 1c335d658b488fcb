use Rattle.fuse_steps.proofs.Steps.{machine-ok, machine-result}
use Rattle.fuse_steps.proofs.asker.obtain_by.Goals as goal

pub returns : goal.returns
returns g c = machine-ok _ c.ask_by-reply.ensures (machine-result c.unless_refused.ensures)
