use Rattle.fuse_steps.proofs.Steps.{machine-attempts, machine-ok, machine-result}
use Rattle.std.proofs.Common.{refl}
use Rattle.fuse_steps.proofs.directory.list_and_close.Goals as goal

pub returns : goal.returns
returns g c = machine-ok _ (machine-attempts _ c.tell_names-names.ensures) (machine-ok _ c.close.ensures.1 (machine-result refl))
