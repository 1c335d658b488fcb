use Rattle.fuse_sessions.proofs.Doings.{keeps-last, then-fails, then-ok, when-false, when-true}
use Rattle.std.proofs.Common.{refl, sym, ◌∙◌}
use Rattle.fuse_requests.proofs.attributes.set_owners.Goals as goal

pub returns-then-not-sets_owners-clause-did : goal.returns-then-not-sets_owners-clause-did
returns-then-not-sets_owners-clause-did g c = when-false _ (sym c.sets_owners.ensures ∙ c.if-not-sets_owners.true)

pub returns-in_err-on_once-clause-did : goal.returns-in_err-on_once-clause-did
returns-in_err-on_once-clause-did g c =
    when-true _ (sym c.sets_owners.ensures ∙ c.if-not-sets_owners.false)
    (then-fails _ c.from_residual.ensures (rw c.empty_path.ensures at c.in_err-on_once.ensures.did))

pub returns-clause-did : goal.returns-clause-did
returns-clause-did g c =
    when-true _ (sym c.sets_owners.ensures ∙ c.if-not-sets_owners.false) (then-ok _ (rw c.empty_path.ensures at c.in_ok-on_once.ensures.did)
    (keeps-last _ refl c.change.ensures.kept))
