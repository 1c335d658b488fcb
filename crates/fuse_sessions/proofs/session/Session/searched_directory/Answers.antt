use Rattle.fuse_sessions.proofs.Doings.{attempts, of-result, then-fails, then-ok}
use Rattle.fuse_sessions.proofs.session.Session.searched_directory.Goals as goal

pub returns-in_err-plain_name : goal.returns-in_err-plain_name
returns-in_err-plain_name g c = then-fails _ c.from_residual.ensures (of-result c.in_err-plain_name.ensures)

pub returns : goal.returns
returns g c =
    then-ok _ (of-result c.in_ok-plain_name.ensures) (then-ok _ (attempts _ c.the_number.ensures) (of-result c.or_absent.ensures))
