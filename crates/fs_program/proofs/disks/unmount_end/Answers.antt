use Rattle.std.proofs.Common.{sym, ap}
use Rattle.fs_system.specs.Replies.{unmounted}
use Rattle.fs_program.specs.Unmounts.{unmount_end}
use Rattle.fs_program.proofs.disks.unmount_end.Goals as goal

pub returns-in-None : goal.returns-in-None
returns-in-None c = sym (ap (λ e. unmount_end c.args.status (unmounted e)) c.in-None.is)

pub returns-in-Some : goal.returns-in-Some
returns-in-Some c = sym (ap (λ e. unmount_end c.args.status (unmounted e)) c.in-Some.is)
