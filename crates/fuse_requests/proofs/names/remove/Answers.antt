use Rattle.fuse_sessions.proofs.Doings.{gives, keeps, of-result, on-machine, then-fails, then-ok, then-was, was-fails}
use Rattle.std.proofs.Common.{refl}
use Rattle.fuse_requests.proofs.names.remove.Goals as goal

pub returns-in_err-dir_ino : goal.returns-in_err-dir_ino
returns-in_err-dir_ino g c = then-fails _ c.from_residual.ensures c.in_err-dir_ino.ensures

pub returns-in_err-cred : goal.returns-in_err-cred
returns-in_err-cred g c =
    then-ok _ c.in_ok-dir_ino.ensures (then-fails _ c.from_residual-in_err-cred.ensures (of-result c.in_err-cred.ensures))

pub returns-in_err-last : goal.returns-in_err-last
returns-in_err-last g c =
    then-ok _ c.in_ok-dir_ino.ensures (then-ok _ (of-result c.in_ok-cred.ensures) (then-ok _ c.look_before-gone.ensures.did
    (then-fails _ c.from_residual-in_err-last.ensures c.in_err-last.ensures.did)))

pub returns-in_err-reply : goal.returns-in_err-reply
returns-in_err-reply g c =
    then-ok _ c.in_ok-dir_ino.ensures (then-ok _ (of-result c.in_ok-cred.ensures) (then-ok _ c.look_before-gone.ensures.did
    (then-ok _ c.in_ok-last.ensures.did (was-fails _ c.from_residual-in_err-reply.ensures (on-machine (rw
    (c.removal-call.ensures, c.look_before-gone.ensures.name, c.actor_in-actor.ensures) at c.inside-reply.ensures)) c.in_err-reply.was))))

pub returns : goal.returns
returns g c =
    then-ok _ c.in_ok-dir_ino.ensures (then-ok _ (of-result c.in_ok-cred.ensures) (then-ok _ c.look_before-gone.ensures.did
    (then-ok _ c.in_ok-last.ensures.did
    (then-was _ (on-machine (rw (c.removal-call.ensures, c.look_before-gone.ensures.name, c.actor_in-actor.ensures) at c.inside-reply.ensures)) c.in_ok-reply.was
    (keeps _ _ refl (rw c.inode_seen.ensures at c.note_removed.ensures.kept) (gives _ _))))))
