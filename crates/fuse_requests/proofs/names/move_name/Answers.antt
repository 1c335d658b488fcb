use Rattle.fuse_sessions.proofs.Doings.{of-result, on-machine, then-fails, then-ok, then-was, was-fails}
use Rattle.fuse_requests.proofs.names.move_name.Goals as goal

pub returns-in_err-may_move : goal.returns-in_err-may_move
returns-in_err-may_move g c = then-fails _ c.from_residual.ensures (of-result c.in_err-may_move.ensures)

pub returns-in_err-dir_ino : goal.returns-in_err-dir_ino
returns-in_err-dir_ino g c =
    then-ok _ (of-result c.in_ok-may_move.ensures) (then-fails _ c.from_residual-in_err-dir_ino.ensures c.in_err-dir_ino.ensures)

pub returns-in_err-new : goal.returns-in_err-new
returns-in_err-new g c =
    then-ok _ (of-result c.in_ok-may_move.ensures) (then-ok _ c.in_ok-dir_ino.ensures
    (then-fails _ c.from_residual-in_err-new.ensures c.in_err-new.ensures))

pub returns-in_err-cred : goal.returns-in_err-cred
returns-in_err-cred g c =
    then-ok _ (of-result c.in_ok-may_move.ensures) (then-ok _ c.in_ok-dir_ino.ensures (then-ok _ c.in_ok-new.ensures
    (then-fails _ c.from_residual-in_err-cred.ensures (of-result c.in_err-cred.ensures))))

pub returns-in_err-free : goal.returns-in_err-free
returns-in_err-free g c =
    then-ok _ (of-result c.in_ok-may_move.ensures) (then-ok _ c.in_ok-dir_ino.ensures (then-ok _ c.in_ok-new.ensures
    (then-ok _ (of-result c.in_ok-cred.ensures)
    (was-fails _ c.from_residual-in_err-free.ensures (on-machine
    (rw c.actor_in-actor.ensures at c.nothing_to_replace-free.ensures.did)) c.in_err-free.was))))

pub returns : goal.returns
returns g c =
    then-ok _ (of-result c.in_ok-may_move.ensures) (then-ok _ c.in_ok-dir_ino.ensures (then-ok _ c.in_ok-new.ensures
    (then-ok _ (of-result c.in_ok-cred.ensures)
    (then-was _ (on-machine (rw c.actor_in-actor.ensures at c.nothing_to_replace-free.ensures.did)) c.in_ok-free.was
    (rw (c.nothing_to_replace-free.ensures.name, c.actor_in-actor.ensures) at c.rename.ensures)))))
