use Rattle.fuse_sessions.proofs.Doings.{needs-none, needs-some, of-result, then-fails, then-ok}
use Rattle.std.proofs.Common.{sym}
use Rattle.fuse_requests.proofs.files.create_file.Goals as goal

pub returns-in_err-plain_name : goal.returns-in_err-plain_name
returns-in_err-plain_name g c = then-fails _ c.from_residual.ensures (of-result c.in_err-plain_name.ensures)

pub returns-in_default : goal.returns-in_default
returns-in_default g c = then-ok _ (of-result c.in_ok-plain_name.ensures) (needs-none _ _ _ (sym c.in_default.ensures))

pub returns-in_err-dir_ino : goal.returns-in_err-dir_ino
returns-in_err-dir_ino g c =
    then-ok _ (of-result c.in_ok-plain_name.ensures) (needs-some _ _ (sym c.in-Some.ensures)
    (then-fails _ c.from_residual-in_err-dir_ino.ensures c.in_err-dir_ino.ensures))

pub returns-in_err-cred : goal.returns-in_err-cred
returns-in_err-cred g c =
    then-ok _ (of-result c.in_ok-plain_name.ensures) (needs-some _ _ (sym c.in-Some.ensures) (then-ok _ c.in_ok-dir_ino.ensures
    (then-ok _ c.new_valid-name_valid.ensures.did (then-fails _ c.from_residual-in_err-cred.ensures (of-result c.in_err-cred.ensures)))))

pub returns : goal.returns
returns g c =
    then-ok _ (of-result c.in_ok-plain_name.ensures) (needs-some _ _ (sym c.in-Some.ensures) (then-ok _ c.in_ok-dir_ino.ensures
    (then-ok _ c.new_valid-name_valid.ensures.did (then-ok _ (of-result c.in_ok-cred.ensures) (c.create_by.ensures)))))
