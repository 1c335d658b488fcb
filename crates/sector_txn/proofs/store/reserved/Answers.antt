use Rattle.std.proofs.Common.{◌∙◌}
use Rattle.std.proofs.lemmas.Result.{IfOk-from_err}
use Rattle.sector_txn.proofs.store.reserved.Goals as goal

pub returns-in_err-waiting : goal.returns-in_err-waiting
returns-in_err-waiting c = IfOk-from_err c.from_residual.result _ c.from_residual.ensures.0

pub returns-in_err-delta : goal.returns-in_err-delta
returns-in_err-delta c = IfOk-from_err c.from_residual-in_err-delta.result _ c.from_residual-in_err-delta.ensures.0

pub returns-in_err-last : goal.returns-in_err-last
returns-in_err-last c = IfOk-from_err c.from_residual-in_err-last.result _ c.from_residual-in_err-last.ensures.0

pub returns-in_err-hints : goal.returns-in_err-hints
returns-in_err-hints c = IfOk-from_err c.from_residual-in_err-hints.result _ c.from_residual-in_err-hints.ensures.0

pub returns : goal.returns
returns c =
    let waits = c.in_ok-waiting.ensures in
    record { placed = waits.placed; logged = waits.logged; places = waits.places; log = waits.log; delta = c.in_ok-delta.ensures.empty; most = c.in_ok-delta.ensures.most ∙ c.most_delta.ensures; last = c.in_ok-last.ensures.most ∙ c.max_targets.ensures }
