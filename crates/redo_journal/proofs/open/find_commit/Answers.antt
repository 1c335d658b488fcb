use Rattle.std.proofs.lemmas.Result.{IfOk-from_err}
use Rattle.sector_disk.proofs.Moments.{reads_joined, reads_more, reads_nothing}
use Rattle.redo_journal.proofs.Causes.{cause_at_ok, cause_on, cause_then}
use Rattle.redo_journal.proofs.open.find_commit.Goals as goal

pub returns-in_err-read : goal.returns-in_err-read
returns-in_err-read g c =
    let r = c.from_residual.result in
    let err = c.from_residual.ensures.0 in
    record { header = IfOk-from_err r _ err; area = IfOk-from_err r _ err; commit = IfOk-from_err r _ err; reads = reads_more reads_nothing c.read.ensures.same c.read.ensures.time c.read.ensures.cause.later c.read.ensures.quiet (g.met.D.Disk.counts_now c.args.disk.now); cause = cause_on r err c.in_err-read.ensures.cause }

pub returns-in_err-area : goal.returns-in_err-area
returns-in_err-area g c =
    let r = c.from_residual-in_err-area.result in
    let err = c.from_residual-in_err-area.ensures.0 in
    let read = reads_more reads_nothing c.read.ensures.same c.read.ensures.time c.read.ensures.cause.later c.read.ensures.quiet (g.met.D.Disk.counts_now c.args.disk.now) in
    record { header = IfOk-from_err r _ err; area = IfOk-from_err r _ err; commit = IfOk-from_err r _ err; reads = reads_joined read c.read_commit.ensures.reads; cause = cause_on r err (cause_then c.read.ensures.cause c.in_err-area.ensures.cause) }

pub returns-clause-reads : goal.returns-clause-reads
returns-clause-reads g c = reads_joined (reads_more reads_nothing c.read.ensures.same c.read.ensures.time c.read.ensures.cause.later c.read.ensures.quiet (g.met.D.Disk.counts_now c.args.disk.now)) c.read_commit.ensures.reads

pub returns-clause-cause : goal.returns-clause-cause
returns-clause-cause g c = cause_then c.read.ensures.cause (cause_at_ok c.in_ok-area.ensures.cause)
