use Rattle.std.proofs.Common.{sym}
use Rattle.fuse_sessions.proofs.Doings.{attempts, gives, of-result, on-machine, then-fails, then-ok, where-false, where-true}
use Rattle.fuse_sessions.proofs.session.Session.find_name.Goals as goal

pub returns-in_err-dir_ino : goal.returns-in_err-dir_ino
returns-in_err-dir_ino g c = then-fails _ c.from_residual.ensures c.in_err-dir_ino.ensures

pub returns-then-asked : goal.returns-then-asked
returns-then-asked g c =
    then-ok _ c.in_ok-dir_ino.ensures
    (then-ok _ (where-true _ _ c.if-asked.true (gives _ _)) (rw (sym c.if-asked.true) at c.find_own.ensures.did))

pub returns-in_err-cred : goal.returns-in_err-cred
returns-in_err-cred g c =
    then-ok _ c.in_ok-dir_ino.ensures
    (then-fails _ c.from_residual-in_err-cred.ensures (where-false _ _ c.if-asked.false (of-result c.in_err-cred.ensures)))

pub returns : goal.returns
returns g c =
    then-ok _ c.in_ok-dir_ino.ensures
    (then-ok _ (where-false _ _ c.if-asked.false (of-result c.in_ok-cred.ensures))
    (then-ok _ (attempts _ (on-machine (rw c.actor_in-actor.ensures at c.look_inside-seen.ensures.did)))
    (rw (sym c.if-asked.false) at c.found_or_absent.ensures.did)))
