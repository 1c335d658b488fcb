-- A step that answers neither ENOMEM nor EIO is one with some free choices, and the reverse.
use Rattle.std.specs.Prelude.{◌≢◌}
use Rattle.fs_cred.specs.declared.errno.Errno.TheVariants.{EIO, ENOMEM}
use Rattle.fs_cred.specs.declared.refusal.Refusal.TheVariants.{Failed}
use Rattle.fs_model.specs.declared.event.Event.{Event}
use Rattle.fs_model.specs.declared.reply.Reply.{Reply}
use Rattle.fs_model.specs.declared.reply.Reply.TheVariants.{Refused}
use Rattle.fs_model.specs.States.{State}
use Rattle.fs_model.specs.Steps.{Choice, Answers, is_halted, refuses_early, refuses_late, acts, lacks_memory, read_fails, write_fails}
use Rattle.fs_model.specs.Confinement.{StepBy, early, late, done, StepsAreBy, StepsBy}

no_choice : Choice
no_choice = record { ino = 0; pid = 0; handle = 0; free = 0 }

answered_by : (s t : State) (e : Event) (r : Reply) → r ≢ Refused (Failed ENOMEM) → r ≢ Refused (Failed EIO)
    → Answers s e r t → (choice : Choice) × StepBy choice s e r t
answered_by s t e r no_memory no_disk (is_halted h a b) = absurd (no_disk a)
answered_by s t e r no_memory no_disk (refuses_early h x a b c) = (no_choice, early h x a b c)
answered_by s t e r no_memory no_disk (refuses_late h x a d b c) = (no_choice, late h x a d b c)
answered_by s t e r no_memory no_disk (acts choice a b c) = (choice, done a b c)
answered_by s t e r no_memory no_disk (lacks_memory h a b c d) = absurd (no_memory c)
answered_by s t e r no_memory no_disk (read_fails h a c d) = absurd (no_disk c)
answered_by s t e r no_memory no_disk (write_fails choice a c processes openings h d) = absurd (no_disk c)

pub steps_are_by : StepsAreBy
steps_are_by s t e r step no_memory no_disk = answered_by s t e r no_memory no_disk step.1

answers_by : (s t : State) (e : Event) (r : Reply) (choice : Choice) → StepBy choice s e r t → Answers s e r t
answers_by s t e r choice (early h x a b c) = refuses_early h x a b c
answers_by s t e r choice (late h x a d b c) = refuses_late h x a d b c
answers_by s t e r choice (done a b c) = acts choice a b c

pub steps_by : StepsBy
steps_by s t e r choice machine step = (machine, answers_by s t e r choice step)
