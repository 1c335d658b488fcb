use Rattle.fuse_sessions.proofs.Doings.{needs-none, needs-some, of-result, then-fails, then-ok}
use Rattle.std.proofs.Common.{sym}
use Rattle.fuse_requests.proofs.files.open_file.Goals as goal

pub returns-in_err-ino : goal.returns-in_err-ino
returns-in_err-ino g c = then-fails _ c.from_residual.ensures c.in_err-ino.ensures

pub returns-in_default : goal.returns-in_default
returns-in_default g c = then-ok _ c.in_ok-ino.ensures (needs-none _ _ _ (sym c.in_default.ensures))

pub returns-in_err-cred : goal.returns-in_err-cred
returns-in_err-cred g c =
    then-ok _ c.in_ok-ino.ensures (needs-some _ _ (sym c.in-Some.ensures)
    (then-fails _ c.from_residual-in_err-cred.ensures (of-result c.in_err-cred.ensures)))

pub returns : goal.returns
returns g c =
    then-ok _ c.in_ok-ino.ensures (needs-some _ _ (sym c.in-Some.ensures) (then-ok _ (of-result c.in_ok-cred.ensures)
    (rw c.actor_in.ensures at c.open_object.ensures)))
