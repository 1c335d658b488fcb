use Rattle.std.specs.Prelude.{Bool}
use Rattle.std.proofs.Common.{ap}
use Rattle.fuse_plans.specs.Times.{tell_time_if}
use Rattle.fuse_steps.proofs.Steps.{machine-gives, machine-ok, machine-same}
use Rattle.fuse_steps.proofs.times.tell_time.Goals as goal

pub returns-then-not-keeps_times : goal.returns-then-not-keeps_times
returns-then-not-keeps_times g c = machine-same (ap (λ (b : Bool). tell_time_if b c.args.now) c.if-not-keeps_times.true) (machine-gives _ _)

pub returns : goal.returns
returns g c =
    machine-same (ap (λ (b : Bool). tell_time_if b c.args.now) c.if-not-keeps_times.false)
    (machine-ok _ (rw c.stamp_of.ensures at c.ask.ensures) (machine-gives _ _))
