use Rattle.std.proofs.Common.{◌∙◌}
use Rattle.fs_cred.specs.declared.refusal.Refusal.TheVariants.{Failed}
use Rattle.file_calls.proofs.Settled.{settled_err, umask_absent, umask_settles}
use Rattle.file_calls.proofs.process.umask.Goals as goal

pub returns-in_err-old : goal.returns-in_err-old
returns-in_err-old c =
    let r = c.from_residual.ensures in
    let absent = umask_absent c.args.procs.now c.args.pid c.args.mask c.in_err-old.field-0.0 c.in_err-old.ensures.answer in
    settled_err c.from_residual.result (Failed c.in_err-old.field-0.0) r.0 r.1 (c.umask.ensures.set ∙ absent.1) absent.0

pub returns : goal.returns
returns c = umask_settles c.args.procs.now c.umask.new.self c.args.pid c.args.mask c.in_ok-old.old c.in_ok-old.ensures.answer c.umask.ensures.set
