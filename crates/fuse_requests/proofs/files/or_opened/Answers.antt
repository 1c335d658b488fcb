use Rattle.fuse_steps.proofs.Steps.{machine-false, machine-gives, machine-has-failed, machine-last-fails, machine-true, machine-was, machine-was-err}
use Rattle.std.proofs.Common.{sym, ◌∙◌}
use Rattle.fuse_requests.proofs.files.or_opened.Goals as goal

pub returns-then-not-may_be_found : goal.returns-then-not-may_be_found
returns-then-not-may_be_found g c = machine-false _ _ (sym c.may_be_found.ensures ∙ c.if-not-may_be_found.true) (machine-has-failed _ _)

pub returns-in_err-opened : goal.returns-in_err-opened
returns-in_err-opened g c =
    machine-true _ _ (sym c.may_be_found.ensures ∙ c.if-not-may_be_found.false)
    (machine-last-fails c.from_residual.ensures (machine-was-err _ (rw
    (c.opening.ensures, c.asked_mode.ensures, c.is_trunc.ensures, c.actor_in-actor.ensures) at c.inside-opened.ensures) c.in_err-opened.was))

pub returns : goal.returns
returns g c =
    machine-true _ _ (sym c.may_be_found.ensures ∙ c.if-not-may_be_found.false)
    (machine-was _ (rw (c.opening.ensures, c.asked_mode.ensures, c.is_trunc.ensures, c.actor_in-actor.ensures) at c.inside-opened.ensures) c.in_ok-opened.was (machine-gives _ _))
