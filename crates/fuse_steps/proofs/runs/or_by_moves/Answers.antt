use Rattle.std.proofs.Common.{sym, ap, ◌∙◌}
use Rattle.fuse_plans.specs.FilePlans.{or_by_moves}
use Rattle.fuse_steps.proofs.Steps.{machine-false, machine-gives, machine-has-failed, machine-same}
use Rattle.fuse_steps.proofs.runs.or_by_moves.Goals as goal

pub returns-in-Ok : goal.returns-in-Ok
returns-in-Ok g c = machine-same (ap (or_by_moves _ _ _) c.in-Ok.is) (machine-gives _ _)

pub returns-then-not-is_for : goal.returns-then-not-is_for
returns-then-not-is_for g c =
    machine-same (ap (or_by_moves _ _ _) c.in-Err.is) (machine-false _ _ (sym c.is_for.ensures ∙ c.if-not-is_for.true) (machine-has-failed _ _))
