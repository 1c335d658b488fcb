use Rattle.fuse_sessions.proofs.Doings.{gives, keeps, on-machine, then-fails, then-ok, then-was, was-fails}
use Rattle.std.proofs.Common.{refl}
use Rattle.fuse_requests.proofs.names.rename.Goals as goal

pub returns-in_err-last : goal.returns-in_err-last
returns-in_err-last g c =
    then-ok _ c.look_before-object.ensures.did (then-ok _ c.look_before-replaced.ensures.did
    (then-fails _ c.from_residual.ensures c.in_err-last.ensures.did))

pub returns-in_err-reply : goal.returns-in_err-reply
returns-in_err-reply g c =
    then-ok _ c.look_before-object.ensures.did (then-ok _ c.look_before-replaced.ensures.did (then-ok _ c.in_ok-last.ensures.did
    (was-fails _ c.from_residual-in_err-reply.ensures (on-machine (rw
    (c.look_before-object.ensures.name, c.look_before-replaced.ensures.name, c.actor_at-actor.ensures) at c.obtain_at-reply.ensures)) c.in_err-reply.was)))

pub returns : goal.returns
returns g c =
    then-ok _ c.look_before-object.ensures.did (then-ok _ c.look_before-replaced.ensures.did (then-ok _ c.in_ok-last.ensures.did
    (then-was _ (on-machine (rw (c.look_before-object.ensures.name, c.look_before-replaced.ensures.name, c.actor_at-actor.ensures) at c.obtain_at-reply.ensures)) c.in_ok-reply.was
    (keeps _ _ refl (rw (c.inode_seen.ensures, c.inode_seen-2.ensures) at c.note_moved.ensures.kept) (gives _ _)))))
