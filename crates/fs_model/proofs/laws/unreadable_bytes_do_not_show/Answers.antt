use Rattle.fs_model.proofs.ConfinedRuns.{confinement, gone_is_refused}
use Rattle.fs_model.proofs.ConfinedStepsOf.{steps_are_by, steps_by}
use Rattle.fs_model.proofs.laws.unreadable_bytes_do_not_show.Goals as goal

pub returns : goal.returns
returns c = record { alike = confinement; gone = gone_is_refused; choices = steps_are_by; steps = steps_by }
