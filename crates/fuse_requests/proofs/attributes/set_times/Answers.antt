use Rattle.fuse_sessions.proofs.Doings.{then-fails, then-ok, when-false, when-true}
use Rattle.std.proofs.Common.{sym, ◌∙◌}
use Rattle.fuse_requests.proofs.attributes.set_times.Goals as goal

pub returns-then-not-sets_times : goal.returns-then-not-sets_times
returns-then-not-sets_times g c = when-false _ (sym c.sets_times.ensures ∙ c.if-not-sets_times.true)

pub returns-in_err-may_set_times : goal.returns-in_err-may_set_times
returns-in_err-may_set_times g c =
    when-true _ (sym c.sets_times.ensures ∙ c.if-not-sets_times.false)
    (then-fails _ c.from_residual.ensures (rw c.counts_as_owner-is_owner.ensures at c.in_err-may_set_times.ensures.did))

pub returns : goal.returns
returns g c =
    when-true _ (sym c.sets_times.ensures ∙ c.if-not-sets_times.false)
    (then-ok _ (rw c.counts_as_owner-is_owner.ensures at c.in_ok-may_set_times.ensures.did) (c.set_stamps.ensures))
