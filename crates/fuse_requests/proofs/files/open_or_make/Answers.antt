use Rattle.fuse_plans.specs.FilePlans.{open_or_make, or_opened}
use Rattle.fuse_steps.proofs.Steps.{machine-attempts, machine-gives, machine-ok, machine-same, some-same}
use Rattle.std.proofs.Common.{ap, refl}
use Rattle.fuse_requests.proofs.files.open_or_make.Goals as goal

pub returns-in-Ok : goal.returns-in-Ok
unfolding open_or_make
returns-in-Ok g c =
    machine-ok _ (machine-attempts _ (rw (c.creating.ensures, c.actor_at-actor.ensures) at c.obtain_at-first.ensures)) (machine-same (ap
    (or_opened _ _ _ _ _) c.in-Ok.is) (machine-gives _ _))

pub returns-in-Err : goal.returns-in-Err
unfolding open_or_make
returns-in-Err g c =
    machine-ok _ (machine-attempts _ (rw (c.creating.ensures, c.actor_at-actor.ensures) at c.obtain_at-first.ensures)) (machine-same (ap
    (or_opened _ _ _ _ _) c.in-Err.is) (rw (some-same (c.in-Some.ensures _ _ _ refl), c.actor_at-actor.ensures) at c.or_opened.ensures))
