use Rattle.fuse_plans.specs.Serving.{count_space}
use Rattle.fuse_sessions.proofs.Doings.{needs-none, needs-some, on-machine, reads-last, then-fails, then-ok}
use Rattle.std.proofs.Common.{refl, sym, ◌∙◌}
use Rattle.fuse_requests.proofs.whole.count_space.Goals as goal

pub returns-in_err-reply-clause-did : goal.returns-in_err-reply-clause-did
unfolding count_space
returns-in_err-reply-clause-did g c = then-fails _ c.from_residual.ensures (on-machine c.in_err-reply.ensures)

pub returns-in_default-clause-did : goal.returns-in_default-clause-did
unfolding count_space
returns-in_default-clause-did g c =
    then-ok _ (on-machine c.in_ok-reply.ensures) (needs-none _ _ _ (sym c.space_of_reply-space.ensures ∙ c.in_default.is))

pub returns-clause-did : goal.returns-clause-did
unfolding count_space
returns-clause-did g c =
    then-ok _ (on-machine c.in_ok-reply.ensures) (needs-some _ _ (sym c.space_of_reply-space.ensures ∙ c.in-Some.is)
    (reads-last _ _ (rw c.settings-settings.ensures refl)))
