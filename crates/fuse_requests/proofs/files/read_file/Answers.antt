use Rattle.fuse_sessions.proofs.Doings.{gives, needs-none, needs-some, on-machine, then-fails, then-ok}
use Rattle.std.proofs.Common.{sym}
use Rattle.fuse_requests.proofs.files.read_file.Goals as goal

pub returns-in_err-reply : goal.returns-in_err-reply
returns-in_err-reply g c = then-fails _ c.from_residual.ensures (on-machine c.in_err-reply.ensures)

pub returns-in-Some : goal.returns-in-Some
returns-in-Some g c =
    then-ok _ (on-machine c.in_ok-reply.ensures) (needs-some _ _ (sym (rw c.data_of_reply.ensures at c.in-Some.ensures)) (gives _ _))

pub returns-in-None : goal.returns-in-None
returns-in-None g c =
    then-ok _ (on-machine c.in_ok-reply.ensures) (needs-none _ _ _ (sym (rw c.data_of_reply.ensures at c.in-None.ensures)))
