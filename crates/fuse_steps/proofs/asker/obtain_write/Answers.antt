use Rattle.fuse_steps.proofs.Steps.{machine-ok, machine-result}
use Rattle.fuse_steps.proofs.asker.obtain_write.Goals as goal

pub returns : goal.returns
returns g c = machine-ok _ c.ask_write-reply.ensures (machine-result c.unless_refused.ensures)
