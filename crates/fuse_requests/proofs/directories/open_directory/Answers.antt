use Rattle.fuse_sessions.proofs.Doings.{attempts, of-result, then-fails, then-ok}
use Rattle.fuse_requests.proofs.directories.open_directory.Goals as goal

pub returns-in_err-cred : goal.returns-in_err-cred
returns-in_err-cred g c = then-fails _ c.from_residual.ensures (of-result c.in_err-cred.ensures)

pub returns-in_err-or_removed : goal.returns-in_err-or_removed
returns-in_err-or_removed g c =
    then-ok _ (of-result c.in_ok-cred.ensures) (then-ok _ (attempts _ c.ask_reading.ensures.did)
    (then-fails _ c.from_residual-in_err-or_removed.ensures (of-result c.in_err-or_removed.ensures)))

pub returns : goal.returns
returns g c =
    then-ok _ (of-result c.in_ok-cred.ensures) (then-ok _ (attempts _ c.ask_reading.ensures.did)
    (then-ok _ (of-result c.in_ok-or_removed.ensures) (rw c.uid-owner.ensures at c.take_directory.ensures)))
