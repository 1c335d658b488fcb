use Rattle.fuse_steps.proofs.Steps.{machine-asks}
use Rattle.fuse_steps.proofs.asker.ask_write.Goals as goal

pub returns : goal.returns
returns g c = machine-asks _ c.write_by.ensures
