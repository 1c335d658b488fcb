use Rattle.fs_model.specs.declared.call.Call.TheVariants as calls
use Rattle.fs_lines.proofs.command.read_process_command.Goals as goal

pub returns-in-umask-clause-said : goal.returns-in-umask-clause-said
returns-in-umask-clause-said c = λ pid same. rw (c.in-umask.is, ← same) (c.one_call.ensures.said calls.Umask (λ a made is. is))
