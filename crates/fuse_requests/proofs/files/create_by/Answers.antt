use Rattle.fuse_sessions.proofs.Doings.{of-result, on-machine, then-fails, then-ok}
use Rattle.fuse_requests.proofs.files.create_by.Goals as goal

pub returns-in_err-reply : goal.returns-in_err-reply
returns-in_err-reply g c = then-fails _ c.from_residual.ensures (on-machine c.in_err-reply.ensures)

pub returns-in_err-opened : goal.returns-in_err-opened
returns-in_err-opened g c =
    then-ok _ (on-machine c.in_ok-reply.ensures) (then-fails _ c.from_residual-in_err-opened.ensures (of-result c.in_err-opened.ensures))

pub returns : goal.returns
returns g c =
    then-ok _ (on-machine c.in_ok-reply.ensures) (then-ok _ (of-result c.in_ok-opened.ensures)
    (rw c.is_trunc-is_cut.ensures at c.tell_created.ensures))
