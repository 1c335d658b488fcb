use Rattle.fuse_sessions.proofs.Doings.{attempts, gives, keeps, of-result, then-fails, then-ok}
use Rattle.std.proofs.Common.{refl}
use Rattle.fuse_requests.proofs.xattrs.set_acl.Goals as goal

pub returns-in_err-ino : goal.returns-in_err-ino
returns-in_err-ino g c = then-fails _ c.from_residual.ensures c.in_err-ino.ensures

pub returns-in_err-cred : goal.returns-in_err-cred
returns-in_err-cred g c =
    then-ok _ c.in_ok-ino.ensures (then-fails _ c.from_residual-in_err-cred.ensures (of-result c.in_err-cred.ensures))

pub returns-in_err-acl : goal.returns-in_err-acl
returns-in_err-acl g c =
    then-ok _ c.in_ok-ino.ensures (then-ok _ (of-result c.in_ok-cred.ensures)
    (then-fails _ c.from_residual-in_err-acl.ensures c.in_err-acl.ensures.did))

pub returns-in_err-or_not_for_files : goal.returns-in_err-or_not_for_files
returns-in_err-or_not_for_files g c =
    then-ok _ c.in_ok-ino.ensures (then-ok _ (of-result c.in_ok-cred.ensures) (then-ok _ c.in_ok-acl.ensures.did
    (then-ok _ (attempts _ (rw (c.empty_path.ensures, c.actor_in-actor.ensures) at c.on_once.ensures.did))
    (then-fails _ c.from_residual-in_err-or_not_for_files.ensures (of-result c.in_err-or_not_for_files.ensures)))))

pub returns : goal.returns
returns g c =
    then-ok _ c.in_ok-ino.ensures (then-ok _ (of-result c.in_ok-cred.ensures) (then-ok _ c.in_ok-acl.ensures.did
    (then-ok _ (attempts _ (rw (c.empty_path.ensures, c.actor_in-actor.ensures) at c.on_once.ensures.did))
    (then-ok _ (of-result c.in_ok-or_not_for_files.ensures) (keeps _ _ refl c.change.ensures.kept (gives _ _))))))
