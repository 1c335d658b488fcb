use Rattle.fuse_sessions.proofs.Doings.{of-result, then-fails, then-ok}
use Rattle.fuse_requests.proofs.names.make_file.Goals as goal

pub returns-in_err-only_file : goal.returns-in_err-only_file
returns-in_err-only_file g c = then-fails _ c.from_residual.ensures (of-result c.in_err-only_file.ensures)

pub returns-in_err-dir_ino : goal.returns-in_err-dir_ino
returns-in_err-dir_ino g c =
    then-ok _ (of-result c.in_ok-only_file.ensures) (then-fails _ c.from_residual-in_err-dir_ino.ensures c.in_err-dir_ino.ensures)

pub returns : goal.returns
returns g c =
    then-ok _ (of-result c.in_ok-only_file.ensures) (then-ok _ c.in_ok-dir_ino.ensures (rw c.making.ensures at c.make_closed-made.ensures))
