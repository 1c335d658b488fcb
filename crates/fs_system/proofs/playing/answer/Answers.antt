use Rattle.std.proofs.Common.{◌∷◌, [], subst}
use Rattle.fs_model.specs.declared.event.Event.TheVariants.{Restart}
use Rattle.fs_system.specs.Playing.{Plays}
use Rattle.fs_system.proofs.playing.answer.Goals as goal

pub returns-in-Arm-clause-answers : goal.returns-in-Arm-clause-answers
returns-in-Arm-clause-answers g c = rw c.in-Arm.is (c.arm.ensures.answers)

pub returns-in-Restart-clause-answers : goal.returns-in-Restart-clause-answers
returns-in-Restart-clause-answers g c =
    rw c.in-Restart.is (subst
    (λ choice. Plays g.D.Disk.state c.args.served (Restart choice c.in-Restart.arm ∷ []) (c.restart.result.1 ∷ []) c.restart.result.0)
    c.bytes.ensures.all c.restart.ensures.answers)

pub returns-in_default : goal.returns-in_default
returns-in_default g c = record { answers = c.serve.ensures.answers; again = c.serve.ensures.again }
