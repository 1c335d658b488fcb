use Rattle.std.proofs.lemmas.Result.{err_from_is_err_and}
use Rattle.fs_shell.proofs.Sessions.{ends_at_once}
use Rattle.fs_shell.proofs.runner.run.Goals as goal

pub returns-in_err-pending-clause-ran : goal.returns-in_err-pending-clause-ran
returns-in_err-pending-clause-ran g c =
    let p = err_from_is_err_and c.from_residual.result c.from_residual.ensures.1 in
    rw p.1 (ends_at_once g.D.Disk.state _ _ c.args.fs.now p.0 (λ much. cc))

pub returns-in_err-line-clause-ran : goal.returns-in_err-line-clause-ran
returns-in_err-line-clause-ran g c =
    let p = err_from_is_err_and c.from_residual-in_err-line.result c.from_residual-in_err-line.ensures.1 in
    rw p.1 (ends_at_once g.D.Disk.state _ _ c.args.fs.now p.0 (λ much. cc))
