use Rattle.fuse_sessions.proofs.Doings.{keeps, of-result, reads-last, then-fails, then-ok}
use Rattle.std.proofs.Common.{refl}
use Rattle.fuse_requests.proofs.files.open_object.Goals as goal

pub returns-in_err-ask_first : goal.returns-in_err-ask_first
returns-in_err-ask_first g c = then-fails _ c.from_residual.ensures c.in_err-ask_first.ensures.did

pub returns-in_err-reply : goal.returns-in_err-reply
returns-in_err-reply g c =
    then-ok _ c.in_ok-ask_first.ensures.did (then-fails _ c.from_residual-in_err-reply.ensures c.in_err-reply.ensures.did)

pub returns-in_err-handle : goal.returns-in_err-handle
returns-in_err-handle g c =
    then-ok _ c.in_ok-ask_first.ensures.did (then-ok _ c.in_ok-reply.ensures.did
    (then-fails _ c.from_residual-in_err-handle.ensures (of-result c.in_err-handle.ensures)))

pub returns : goal.returns
returns g c =
    then-ok _ c.in_ok-ask_first.ensures.did (then-ok _ c.in_ok-reply.ensures.did (then-ok _ (of-result c.in_ok-handle.ensures)
    (keeps _ _ refl (rw c.is_trunc.ensures at c.touch_if.ensures.kept) (reads-last _ _ c.opened_body.ensures))))
