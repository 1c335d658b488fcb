use Rattle.std.proofs.Common.{rules}
use Rattle.std.proofs.lemmas.Result.{IfOk-from_err}
use Rattle.posix_acl.proofs.Memory.{no_memory}
use Rattle.posix_acl.proofs.acl.Acl.from_mode.Goals as goal

pub returns-clause-ok : goal.returns-clause-ok
returns-clause-ok c = search rules

pub returns-in_err-entries : goal.returns-in_err-entries
returns-in_err-entries c =
    let end = c.from_residual in
    record { ok = IfOk-from_err end.result _ end.ensures.0; err = no_memory end.result end.ensures.1 }

pub returns-in_err-push : goal.returns-in_err-push
returns-in_err-push c =
    let end = c.from_residual-in_err-push in
    record { ok = IfOk-from_err end.result _ end.ensures.0; err = no_memory end.result end.ensures.1 }

pub returns-in_err-push-2 : goal.returns-in_err-push-2
returns-in_err-push-2 c =
    let end = c.from_residual-in_err-push-2 in
    record { ok = IfOk-from_err end.result _ end.ensures.0; err = no_memory end.result end.ensures.1 }

pub returns-in_err-push-3 : goal.returns-in_err-push-3
returns-in_err-push-3 c =
    let end = c.from_residual-in_err-push-3 in
    record { ok = IfOk-from_err end.result _ end.ensures.0; err = no_memory end.result end.ensures.1 }
