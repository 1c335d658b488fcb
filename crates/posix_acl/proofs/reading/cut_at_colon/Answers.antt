use Rattle.std.proofs.Common.{sym, ◌∙◌}
use Rattle.posix_acl.specs.Text.{is_colon}
use Rattle.posix_acl.proofs.Cuts.{cut_found, cut_none}
use Rattle.posix_acl.proofs.reading.cut_at_colon.Goals as goal

pub returns-in_err-at-clause-none : goal.returns-in_err-at-clause-none
returns-in_err-at-clause-none c =
    let whole = cut_none is_colon c.args.text.now (sym c.position_of.ensures ∙ c.in_err-at.was) in rw c.from_residual.ensures whole

pub returns-clause-found : goal.returns-clause-found
returns-clause-found c = cut_found is_colon c.args.text.now c.in_ok-at.at (sym c.position_of.ensures ∙ c.in_ok-at.was)
