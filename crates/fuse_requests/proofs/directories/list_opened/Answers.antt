use Rattle.fuse_plans.specs.DirectoryPlans.{list_opened}
use Rattle.fuse_sessions.proofs.Doings.{of-result, on-machine, same-work, then-fails, then-ok}
use Rattle.std.proofs.Common.{ap}
use Rattle.fuse_requests.proofs.directories.list_opened.Goals as goal

pub returns-in_err-handle-in-Ok-clause-did : goal.returns-in_err-handle-in-Ok-clause-did
returns-in_err-handle-in-Ok-clause-did g c =
    same-work (ap list_opened c.in-Ok.is) (then-fails _ c.from_residual.ensures (of-result c.in_err-handle-in-Ok.ensures))

pub returns-in_ok-handle-in-Ok-clause-did : goal.returns-in_ok-handle-in-Ok-clause-did
returns-in_ok-handle-in-Ok-clause-did g c =
    same-work (ap list_opened c.in-Ok.is) (then-ok _ (of-result c.in_ok-handle-in-Ok.ensures) (on-machine c.list_and_close.ensures))

pub returns-in-Err-clause-did : goal.returns-in-Err-clause-did
returns-in-Err-clause-did g c = same-work (ap list_opened c.in-Err.is) (of-result c.none_if_gone.ensures)
