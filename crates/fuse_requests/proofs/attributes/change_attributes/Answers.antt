use Rattle.fuse_sessions.proofs.Doings.{then-fails, then-ok}
use Rattle.fuse_requests.proofs.attributes.change_attributes.Goals as goal

pub returns-in_err-set_size-clause-did : goal.returns-in_err-set_size-clause-did
returns-in_err-set_size-clause-did g c = then-fails _ c.from_residual.ensures c.in_err-set_size.ensures.did

pub returns-in_err-set_owners-clause-did : goal.returns-in_err-set_owners-clause-did
returns-in_err-set_owners-clause-did g c =
    then-ok _ c.in_ok-set_size.ensures.did (then-fails _ c.from_residual-in_err-set_owners.ensures c.in_err-set_owners.ensures.did)

pub returns-clause-did : goal.returns-clause-did
returns-clause-did g c = then-ok _ c.in_ok-set_size.ensures.did (then-ok _ c.in_ok-set_owners.ensures.did (c.set_mode.ensures.did))
