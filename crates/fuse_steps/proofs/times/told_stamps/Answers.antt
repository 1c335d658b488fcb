use Rattle.std.specs.Prelude.{Bool}
use Rattle.std.proofs.Common.{ap}
use Rattle.fuse_plans.specs.Times.{told_stamps_if}
use Rattle.fuse_steps.proofs.Steps.{machine-fails, machine-gives, machine-ok, machine-result, machine-same}
use Rattle.fuse_steps.proofs.times.told_stamps.Goals as goal

pub returns-then-not-keeps_times : goal.returns-then-not-keeps_times
returns-then-not-keeps_times g c = machine-same (ap (λ (b : Bool). told_stamps_if b c.args.ino) c.if-not-keeps_times.true) (machine-gives _ _)

pub returns-in_err-stamps : goal.returns-in_err-stamps
returns-in_err-stamps g c =
    machine-same (ap (λ (b : Bool). told_stamps_if b c.args.ino) c.if-not-keeps_times.false)
    (machine-ok _ c.ask_stamp-reply.ensures (machine-fails _ c.from_residual.ensures (machine-result c.in_err-stamps.ensures)))

pub returns : goal.returns
returns g c =
    machine-same (ap (λ (b : Bool). told_stamps_if b c.args.ino) c.if-not-keeps_times.false)
    (machine-ok _ c.ask_stamp-reply.ensures (machine-ok _ (machine-result c.in_ok-stamps.ensures) (machine-gives _ _)))
