use Rattle.fuse_requests.proofs.Chains.{work-fails, work-ok}
use Rattle.fuse_requests.proofs.names.may_move.Goals as goal

pub returns-in_err-only_no_replace : goal.returns-in_err-only_no_replace
returns-in_err-only_no_replace c = work-fails _ _ _ c.from_residual.ensures c.in_err-only_no_replace.ensures

pub returns-in_err-plain_name : goal.returns-in_err-plain_name
returns-in_err-plain_name c =
    work-ok _ _ _ c.in_ok-only_no_replace.ensures (work-fails _ _ _ c.from_residual-in_err-plain_name.ensures c.in_err-plain_name.ensures)

pub returns : goal.returns
returns c = work-ok _ _ _ c.in_ok-only_no_replace.ensures (work-ok _ _ _ c.in_ok-plain_name.ensures c.plain_name-2.ensures)
