use Rattle.std.proofs.Common.{◌∙◌, ap, inl, inr}
use Rattle.fs_program.specs.Jobs.{does_job, refuses, is_mute}
use Rattle.fs_command.specs.Statuses.{code_of}
use Rattle.fs_program.proofs.jobs.perform.Goals as goal

pub returns-in-Ok-clause-performs : goal.returns-in-Ok-clause-performs
returns-in-Ok-clause-performs g c =
    does_job c.in-Ok.job c.perform_job-outcome.result c.in-Ok.ensures.said c.perform_job-outcome.ensures (c.code.ensures ∙ ap code_of c.finish.ensures)

pub returns-in-Err-clause-performs : goal.returns-in-Err-clause-performs
returns-in-Err-clause-performs g c = elim c.refuse.ensures [
  | inl told ↦ refuses c.in-Err.fault c.in-Err.ensures.said (c.code-in-Err.ensures ∙ ap code_of told)
  | inr mute ↦ is_mute c.in-Err.fault c.in-Err.ensures.said (c.code-in-Err.ensures ∙ ap code_of mute)
]
