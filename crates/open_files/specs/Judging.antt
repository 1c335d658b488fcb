-- As which process a call is judged.
use Rattle.fs_model.specs.Processes.{Process}
use Rattle.fs_model.specs.Actors.{judged_as}
use Rattle.open_files.specs.declared.procs.Held.{Held}
use Rattle.open_files.specs.declared.procs.Held.TheVariants as held

abbrev pub held_process : Held → Process
held_process (held.Process process) = process.now
held_process (held.Actor actor) = judged_as actor.now
