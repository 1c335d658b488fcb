use Rattle.fuse_plans.specs.DirectoryPlans.{sync_all}
use Rattle.fuse_sessions.proofs.Doings.{gives, on-machine, then-fails, then-ok}
use Rattle.fuse_requests.proofs.whole.sync_all.Goals as goal

pub returns-in_err-obtain-clause-did : goal.returns-in_err-obtain-clause-did
unfolding sync_all
returns-in_err-obtain-clause-did g c = then-fails _ c.from_residual.ensures (on-machine c.in_err-obtain.ensures)

pub returns-clause-did : goal.returns-clause-did
unfolding sync_all
returns-clause-did g c = then-ok _ (on-machine c.in_ok-obtain.ensures) (gives _ _)
