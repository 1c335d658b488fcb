use Rattle.std.proofs.Common.{refl}
use Rattle.host_trees.proofs.Asking.{copies_along}
use Rattle.fs_program.proofs.answering.ask_mounted.Goals as goal

pub returns : goal.returns
returns g c = (c.ask.new.machine, copies_along c.new-machine.ensures refl c.ask.ensures)
