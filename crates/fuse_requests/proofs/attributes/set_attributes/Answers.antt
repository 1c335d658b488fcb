use Rattle.fuse_sessions.proofs.Doings.{of-result, then-fails, then-ok}
use Rattle.fuse_requests.proofs.attributes.set_attributes.Goals as goal

pub returns-in_err-ino : goal.returns-in_err-ino
returns-in_err-ino g c = then-fails _ c.from_residual.ensures c.in_err-ino.ensures

pub returns-in_err-cred : goal.returns-in_err-cred
returns-in_err-cred g c =
    then-ok _ c.in_ok-ino.ensures (then-fails _ c.from_residual-in_err-cred.ensures (of-result c.in_err-cred.ensures))

pub returns-in_err-change_attributes : goal.returns-in_err-change_attributes
returns-in_err-change_attributes g c =
    then-ok _ c.in_ok-ino.ensures (then-ok _ (of-result c.in_ok-cred.ensures)
    (then-fails _ c.from_residual-in_err-change_attributes.ensures (rw c.actor_in-actor.ensures at c.in_err-change_attributes.ensures.did)))

pub returns : goal.returns
returns g c =
    then-ok _ c.in_ok-ino.ensures (then-ok _ (of-result c.in_ok-cred.ensures)
    (then-ok _ (rw c.actor_in-actor.ensures at c.in_ok-change_attributes.ensures.did) (rw c.actor_in-actor.ensures at c.tell_times.ensures)))
