use Rattle.std.proofs.Common.{ap}
use Rattle.call_parts.specs.BothTables.{both}
use Rattle.sector_txn.proofs.TransactionRuns.{store_same}
use Rattle.file_calls.proofs.Endings.{absent_exits, failed_exits, exited, no_exit_err}
use Rattle.file_calls.proofs.process.exit.Goals as goal

pub returns-in_err-process : goal.returns-in_err-process
returns-in_err-process g c =
    let r = c.from_residual.ensures in
    absent_exits c.from_residual.result c.in_err-process.field-0.0 r.0 r.1 store_same c.in_err-process.ensures.absent

pub returns-in_err-leave_all : goal.returns-in_err-leave_all
returns-in_err-leave_all g c =
    let r = c.from_residual-in_err-leave_all.ensures in
    failed_exits c.in_ok-process.field-0.now c.in_ok-process.ensures.found c.from_residual-in_err-leave_all.result c.in_err-leave_all.field-0.0 r.0 r.1
    c.in_err-leave_all.ensures.store c.in_err-leave_all.ensures.fault

pub returns-in_err-exit : goal.returns-in_err-exit
returns-in_err-exit g c = absurd (no_exit_err c.args.procs.now c.args.pid c.in_ok-process.field-0.now c.in_err-exit.field-0.0 c.in_ok-process.ensures.found c.in_err-exit.ensures.answer)

pub returns : goal.returns
returns g c =
    let done = c.in_ok-leave_all.ensures in
    exited (both c.exit.new.self c.args.openings.now.0) c.in_ok-process.field-0.now c.in_ok-process.ensures.found (ap (λ m. both m c.args.openings.now.0) c.exit.ensures.gone) done.store done.made.super done.made.held
