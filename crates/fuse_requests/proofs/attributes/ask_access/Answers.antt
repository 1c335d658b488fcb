use Rattle.fuse_sessions.proofs.Doings.{attempts, gives, of-result, then-fails, then-ok}
use Rattle.fuse_requests.proofs.attributes.ask_access.Goals as goal

pub returns-in_err-ino : goal.returns-in_err-ino
returns-in_err-ino g c = then-fails _ c.from_residual.ensures c.in_err-ino.ensures

pub returns-in_err-cred : goal.returns-in_err-cred
returns-in_err-cred g c =
    then-ok _ c.in_ok-ino.ensures (then-fails _ c.from_residual-in_err-cred.ensures (of-result c.in_err-cred.ensures))

pub returns-in_err-or_of_link : goal.returns-in_err-or_of_link
returns-in_err-or_of_link g c =
    then-ok _ c.in_ok-ino.ensures (then-ok _ (of-result c.in_ok-cred.ensures)
    (then-fails _ c.from_residual-in_err-or_of_link.ensures (then-ok _ (attempts _ (rw
    (c.empty_path.ensures, c.from_digit.ensures, c.actor_in-actor.ensures) at c.on_once.ensures.did)) (of-result c.in_err-or_of_link.ensures))))

pub returns : goal.returns
returns g c =
    then-ok _ c.in_ok-ino.ensures (then-ok _ (of-result c.in_ok-cred.ensures)
    (then-ok _ (then-ok _ (attempts _ (rw (c.empty_path.ensures, c.from_digit.ensures, c.actor_in-actor.ensures) at c.on_once.ensures.did))
    (of-result c.in_ok-or_of_link.ensures))
    (gives _ _)))
