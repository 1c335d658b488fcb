use Rattle.call_parts.specs.BothTables.{both}
use Rattle.std.proofs.Common.{sym, subst}
use Rattle.fs_system.proofs.Methods.{flush_leaves, last_broken, last_closed, last_halted}
use Rattle.fs_images.specs.Standing.{EachStandsForSome}
use Rattle.fs_system.specs.Seen.{disk_in}
use Rattle.fs_system.proofs.fs.Fs.unmount.Goals as goal

pub returns-in-Ok-clause-does : goal.returns-in-Ok-clause-does
returns-in-Ok-clause-does g c =
    last_closed g.D.Disk.state g.met.D.Disk.only_now c.self.inside.base c.self.inside.geometry (both c.self.inside.procs c.self.inside.openings.0) c.self.inside.time c.args.self c.self.view_is c.in-Running.store
    c.in-Running.is c.in-Ok.disk
    c.in-Ok.ensures.images c.in-Ok.ensures.lasting c.in-Ok.ensures.cause.later c.in-Ok.ensures.told.quiet

pub returns-in-Ok-clause-again : goal.returns-in-Ok-clause-again
returns-in-Ok-clause-again g c =
    flush_leaves g.D.Disk.state g.met.D.Disk.only_now c.self.inside.base c.self.inside.geometry (both c.self.inside.procs c.self.inside.openings.0) c.self.inside.time c.args.self c.self.view_is c.in-Running.store
    c.in-Running.is c.in-Ok.disk (g.met.D.Disk.counts_now c.in-Ok.disk) c.in-Ok.ensures.images c.self.invariant

pub returns-in-Running-clause-does : goal.returns-in-Running-clause-does
returns-in-Running-clause-does g c =
    last_broken g.D.Disk.state g.met.D.Disk.only_now c.self.inside.base c.self.inside.geometry (both c.self.inside.procs c.self.inside.openings.0) c.self.inside.time c.args.self c.self.view_is c.in-Running.store
    c.in-Running.is c.in-Err.broken
    c.in-Err.ensures.images c.in-Err.ensures.cause.later c.in-Err.ensures.cause.fault c.in-Err.ensures.told.fault c.into_disk.result c.into_disk.ensures

pub returns-in-Running-clause-again : goal.returns-in-Running-clause-again
returns-in-Running-clause-again g c =
    subst (λ d. EachStandsForSome (g.D.Disk.state d)) (sym c.into_disk.ensures)
    (flush_leaves g.D.Disk.state g.met.D.Disk.only_now c.self.inside.base c.self.inside.geometry (both c.self.inside.procs c.self.inside.openings.0) c.self.inside.time c.args.self c.self.view_is c.in-Running.store
    c.in-Running.is c.in-Err.broken (g.met.D.Disk.counts_now c.in-Err.broken) c.in-Err.ensures.images c.self.invariant)

pub returns-in-Halted-clause-does : goal.returns-in-Halted-clause-does
returns-in-Halted-clause-does g c =
    last_halted g.D.Disk.state g.met.D.Disk.only_now c.self.inside.base c.self.inside.geometry (both c.self.inside.procs c.self.inside.openings.0) c.self.inside.time c.args.self c.self.view_is c.in-Halted.broken
    c.in-Halted.is c.into_disk-in-Halted.result c.into_disk-in-Halted.ensures

pub returns-in-Halted-clause-again : goal.returns-in-Halted-clause-again
returns-in-Halted-clause-again g c =
    subst (λ d. EachStandsForSome (g.D.Disk.state d)) (sym c.into_disk-in-Halted.ensures)
    (subst (λ b. EachStandsForSome (disk_in g.D.Disk.state b)) c.in-Halted.is c.self.invariant.mountable)

pub returns-in-Ok-clause-halted : goal.returns-in-Ok-clause-halted
returns-in-Ok-clause-halted g c = rw (← c.self.view_is) (λ disk halted. absurd cc)

pub returns-in-Running-clause-halted : goal.returns-in-Running-clause-halted
returns-in-Running-clause-halted g c = rw (← c.self.view_is) (λ disk halted. absurd cc)

pub returns-in-Halted-clause-halted : goal.returns-in-Halted-clause-halted
returns-in-Halted-clause-halted g c = rw (← c.self.view_is) (λ disk halted. cc)
