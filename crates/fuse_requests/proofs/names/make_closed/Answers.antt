use Rattle.fuse_sessions.proofs.Doings.{of-result, on-machine, then-fails, then-ok}
use Rattle.fuse_requests.proofs.names.make_closed.Goals as goal

pub returns-in_err-cred : goal.returns-in_err-cred
returns-in_err-cred g c =
    then-ok _ c.new_valid-name_valid.ensures.did (then-fails _ c.from_residual.ensures (of-result c.in_err-cred.ensures))

pub returns-in_err-reply : goal.returns-in_err-reply
returns-in_err-reply g c =
    then-ok _ c.new_valid-name_valid.ensures.did (then-ok _ (of-result c.in_ok-cred.ensures)
    (then-fails _ c.from_residual-in_err-reply.ensures (on-machine (rw c.actor_at-actor.ensures at c.in_err-reply.ensures))))

pub returns-in_err-handle : goal.returns-in_err-handle
returns-in_err-handle g c =
    then-ok _ c.new_valid-name_valid.ensures.did (then-ok _ (of-result c.in_ok-cred.ensures)
    (then-ok _ (on-machine (rw c.actor_at-actor.ensures at c.in_ok-reply.ensures))
    (then-fails _ c.from_residual-in_err-handle.ensures (of-result c.in_err-handle.ensures))))

pub returns : goal.returns
returns g c =
    then-ok _ c.new_valid-name_valid.ensures.did (then-ok _ (of-result c.in_ok-cred.ensures)
    (then-ok _ (on-machine (rw c.actor_at-actor.ensures at c.in_ok-reply.ensures)) (then-ok _ (of-result c.in_ok-handle.ensures)
    (then-ok _ (on-machine c.close.ensures.1) (c.tell_made.ensures)))))
