use Rattle.fuse_sessions.proofs.Doings.{keeps, of-result, on-machine, then-fails, then-ok, then-was, was-fails}
use Rattle.std.proofs.Common.{refl}
use Rattle.fuse_requests.proofs.names.link_as.Goals as goal

pub returns-in_err-cred : goal.returns-in_err-cred
returns-in_err-cred g c = then-fails _ c.from_residual.ensures (of-result c.in_err-cred.ensures)

pub returns-in_err-reply : goal.returns-in_err-reply
returns-in_err-reply g c =
    then-ok _ (of-result c.in_ok-cred.ensures)
    (was-fails _ c.from_residual-in_err-reply.ensures (on-machine (rw
    (c.empty_path.ensures, c.actor_at-actor.ensures) at c.obtain_at-reply.ensures)) c.in_err-reply.was)

pub returns : goal.returns
returns g c =
    then-ok _ (of-result c.in_ok-cred.ensures)
    (then-was _ (on-machine (rw (c.empty_path.ensures, c.actor_at-actor.ensures) at c.obtain_at-reply.ensures)) c.in_ok-reply.was
    (keeps _ _ refl c.note_linked.ensures.kept (c.tell_named.ensures)))
