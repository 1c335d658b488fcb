use Rattle.fuse_plans.specs.FilePlans.{tell_created}
use Rattle.fuse_sessions.proofs.Doings.{keeps, reads-last, then-fails, then-ok}
use Rattle.std.proofs.Common.{refl}
use Rattle.fuse_requests.proofs.files.tell_created.Goals as goal

pub returns-in_err-status : goal.returns-in_err-status
unfolding tell_created
returns-in_err-status g c =
    keeps _ _ refl c.note_opened.ensures.kept (then-fails _ c.from_residual.ensures c.in_err-status.ensures.did)

pub returns : goal.returns
unfolding tell_created
returns g c =
    keeps _ _ refl c.note_opened.ensures.kept (then-ok _ c.in_ok-status.ensures.did (reads-last _ _ c.created_body.ensures))
