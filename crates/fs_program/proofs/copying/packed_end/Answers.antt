use Rattle.std.proofs.Common.{◌∙◌, sym, ap}
use Rattle.fs_system.specs.Replies.{unmounted}
use Rattle.fs_program.specs.declared.failure.Failure.TheVariants.{Pack}
use Rattle.fs_program.specs.Copying.{copy_end}
use Rattle.fs_program.specs.Unmounts.{unmount_end}
use Rattle.fs_program.proofs.copying.packed_end.Goals as goal

pub returns-in-Ok : goal.returns-in-Ok
returns-in-Ok c = c.unmount_end.ensures ∙ ap (λ s. unmount_end s (unmounted c.args.errno)) c.status_of.ensures
    ∙ sym (ap (λ r. copy_end Pack r (unmounted c.args.errno)) c.in-Ok.is)

pub returns-in-Err : goal.returns-in-Err
returns-in-Err c = sym (ap (λ r. copy_end Pack r (unmounted c.args.errno)) c.in-Err.is)
