use Rattle.fuse_plans.specs.Works.{of_result}
use Rattle.fuse_sessions.proofs.Doings.{of-result, then-fails, then-ok}
use Rattle.std.proofs.Common.{ap}
use Rattle.fuse_requests.proofs.lookups.find_in_place.Goals as goal

pub returns-in_err-plain_name-clause-did : goal.returns-in_err-plain_name-clause-did
returns-in_err-plain_name-clause-did g c = then-fails _ c.from_residual.ensures (of-result c.in_err-plain_name.ensures)

pub returns-in_err-dir_ino-clause-did : goal.returns-in_err-dir_ino-clause-did
returns-in_err-dir_ino-clause-did g c =
    then-ok _ (of-result c.in_ok-plain_name.ensures)
    (then-fails _ c.from_residual-in_err-dir_ino.ensures (of-result (ap of_result c.in_err-dir_ino.was)))

pub returns-clause-did : goal.returns-clause-did
returns-clause-did g c =
    then-ok _ (of-result c.in_ok-plain_name.ensures) (then-ok _ (of-result (ap of_result c.in_ok-dir_ino.was)) (c.find_own.ensures.did))
