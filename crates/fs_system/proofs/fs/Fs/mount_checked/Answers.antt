use Rattle.call_parts.specs.BothTables.{both}
use Rattle.fs_model.specs.Processes.{ProcessTable, Openings}
use Rattle.std.proofs.Common.{[], ap, sym, subst, arith, ◌∙◌}
use Rattle.sector_disk.specs.Disk.{LeavesOnly}
use Rattle.sector_disk.proofs.Moments.{failed_later}
use Rattle.fs_layout.specs.Geometry.{IsGeometry}
use Rattle.fs_model.specs.declared.event.RestartFault.TheVariants.{DiskFault, OutOfMemory}
use Rattle.sector_txn.specs.Stores.{StoreView, present}
use Rattle.fs_model.specs.States.{State}
use Rattle.fs_system.specs.Mounting.{IsSystem, StandsAsBefore}
use Rattle.fs_system.specs.Mounts.{Mounts}
use Rattle.fs_system.specs.declared.base.Base.TheVariants.{Running}
use Rattle.fs_system.specs.Seen.{IsIn}
use Rattle.fs_images.proofs.Places.{is_geometry}
use Rattle.fs_system.proofs.Remembered.{nothing_counted}
use Rattle.fs_system.proofs.Mounts.{same_stands, opened_stands, opened_tree, swept_moments, fails_to_mount, mounts_found, mounted_system, device_failed}
use Rattle.fs_system.proofs.fs.Fs.mount_checked.Goals as goal

pub new-requires : goal.new-requires
new-requires g c =
    let some = c.requires in
    subst IsGeometry (c.in-Ok.ensures.found some.0 some.1 some.2 some.3) (is_geometry (g.D.Disk.state c.args.disk).seen some.0 some.1 some.2 some.3)

pub uncounted-requires : goal.uncounted-requires
uncounted-requires g c = nothing_counted (present g.D.Disk.state c.in-Ok-sweep.store) c.in-Ok-new.counts c.in-Ok-new.ensures

pub sweep-requires : goal.sweep-requires
sweep-requires g c =
    record {
      tree = (
        c.requires.1,
        opened_tree g.D.Disk.state c.args.disk c.read_geometry.new.disk c.in-Ok-open_store.store (g.met.D.Disk.seen_is_image c.args.disk) c.requires
            c.read_geometry.ensures.same c.in-Ok-open_store.ensures.size c.in-Ok-open_store.ensures.map c.in-Ok-open_store.ensures.lasting c.in-Ok.geometry c.in-Ok.ensures.found,
      );
    }

pub returns-in_default-clause-any_moment : goal.returns-in_default-clause-any_moment
returns-in_default-clause-any_moment g c =
    same_stands (g.D.Disk.state c.args.disk) (g.D.Disk.state c.read_geometry.new.disk) (g.met.D.Disk.only_now c.args.disk) c.read_geometry.ensures.same c.read_geometry.ensures.time

pub returns-in-Ok-sweep-clause-any_moment : goal.returns-in-Ok-sweep-clause-any_moment
returns-in-Ok-sweep-clause-any_moment g c =
    subst (λ (x : StoreView g.row.D.Denot). LeavesOnly (g.D.Disk.state c.args.disk) (g.D.Disk.state x.disk) (StandsAsBefore (g.D.Disk.state c.args.disk)))
    (sym c.uncounted.ensures)
    (swept_moments g.D.Disk.state c.args.disk c.read_geometry.new.disk c.in-Ok-open_store.store (g.met.D.Disk.seen_is_image c.args.disk) c.requires
    c.read_geometry.ensures.same c.in-Ok-open_store.ensures.size c.in-Ok-open_store.ensures.map c.in-Ok-open_store.ensures.lasting c.in-Ok.geometry c.in-Ok.ensures.found
    (g.D.Disk.state c.in-Ok-sweep.store.disk)
    (opened_stands (g.D.Disk.state c.args.disk) (g.D.Disk.state c.read_geometry.new.disk) (g.D.Disk.state c.in-Ok-open_store.store.disk) (g.met.D.Disk.only_now c.args.disk)
    c.read_geometry.ensures.same c.read_geometry.ensures.time c.in-Ok-open_store.ensures.any_moment) c.in-Ok-sweep.ensures.any_moment)

pub returns-in-Ok-sweep-clause-mounted : goal.returns-in-Ok-sweep-clause-mounted
returns-in-Ok-sweep-clause-mounted g c =
    let first = c.read_geometry.ensures.cause.later in
    let then = c.in-Ok-open_store.ensures.later in
    let last = c.in-Ok-sweep.ensures.cause.later in
    subst (λ (x : StoreView g.row.D.Denot). (s : State) × IsIn g.D.Disk.state (record { base = Running x; geometry = c.in-Ok.geometry; processes = c.new-in-Ok-sweep.result; openings = c.new-in-Ok-sweep-2.result.0; time = 0 }) s
    × Mounts (g.D.Disk.state c.args.disk) (g.D.Disk.state x.disk) s) (sym c.uncounted.ensures)
    (mounts_found g.D.Disk.state c.args.disk c.read_geometry.new.disk c.in-Ok-open_store.store (g.met.D.Disk.seen_is_image c.args.disk) c.requires
    c.read_geometry.ensures.same c.in-Ok-open_store.ensures.size c.in-Ok-open_store.ensures.map c.in-Ok-open_store.ensures.lasting c.in-Ok.geometry c.in-Ok.ensures.found
    c.in-Ok-sweep.store c.in-Ok-sweep.ensures.swept c.in-Ok-sweep.ensures.lasting (omega (arith, first, then, last))
    (c.in-Ok-sweep.ensures.quiet ∙ c.in-Ok-open_store.ensures.quiet ∙ c.read_geometry.ensures.quiet) (both c.new-in-Ok-sweep.result c.new-in-Ok-sweep-2.result.0)
    (ap (λ (d : ProcessTable). both d c.new-in-Ok-sweep-2.result.0) c.new-in-Ok-sweep.ensures ∙ ap (λ (o : Openings). both [] o) c.new-in-Ok-sweep-2.ensures))

pub invariant_of-result : goal.invariant_of-result
invariant_of-result g c =
    let first = c.read_geometry.ensures.cause.later in
    let then = c.in-Ok-open_store.ensures.later in
    let last = c.in-Ok-sweep.ensures.cause.later in
    subst (λ (x : StoreView g.row.D.Denot). IsSystem g.D.Disk.state (record { base = Running x; geometry = c.in-Ok.geometry; processes = c.new-in-Ok-sweep.result; openings = c.new-in-Ok-sweep-2.result.0; time = 0 }))
    (sym c.uncounted.ensures)
    (mounted_system g.D.Disk.state c.args.disk c.read_geometry.new.disk c.in-Ok-open_store.store (g.met.D.Disk.seen_is_image c.args.disk) c.requires
    c.read_geometry.ensures.same c.in-Ok-open_store.ensures.size c.in-Ok-open_store.ensures.map c.in-Ok-open_store.ensures.lasting c.in-Ok.geometry c.in-Ok.ensures.found
    c.in-Ok-sweep.store c.in-Ok-sweep.ensures.swept c.in-Ok-sweep.ensures.lasting (omega (arith, first, then, last))
    (c.in-Ok-sweep.ensures.quiet ∙ c.in-Ok-open_store.ensures.quiet ∙ c.read_geometry.ensures.quiet) (both c.new-in-Ok-sweep.result c.new-in-Ok-sweep-2.result.0)
    (ap (λ (d : ProcessTable). both d c.new-in-Ok-sweep-2.result.0) c.new-in-Ok-sweep.ensures ∙ ap (λ (o : Openings). both [] o) c.new-in-Ok-sweep-2.ensures))

pub returns-in-Err-sweep-clause-any_moment : goal.returns-in-Err-sweep-clause-any_moment
returns-in-Err-sweep-clause-any_moment g c =
    swept_moments g.D.Disk.state c.args.disk c.read_geometry.new.disk c.in-Ok-open_store.store (g.met.D.Disk.seen_is_image c.args.disk) c.requires
    c.read_geometry.ensures.same c.in-Ok-open_store.ensures.size c.in-Ok-open_store.ensures.map c.in-Ok-open_store.ensures.lasting c.in-Ok.geometry c.in-Ok.ensures.found
    (g.D.Disk.state c.in-Err-sweep.disk)
    (opened_stands (g.D.Disk.state c.args.disk) (g.D.Disk.state c.read_geometry.new.disk) (g.D.Disk.state c.in-Ok-open_store.store.disk) (g.met.D.Disk.only_now c.args.disk)
    c.read_geometry.ensures.same c.read_geometry.ensures.time c.in-Ok-open_store.ensures.any_moment) c.in-Err-sweep.ensures.any_moment

pub returns-in-Err-sweep-clause-failed : goal.returns-in-Err-sweep-clause-failed
returns-in-Err-sweep-clause-failed g c =
    let first = c.read_geometry.ensures.cause.later in
    let then = c.in-Ok-open_store.ensures.later in
    let last = c.in-Err-sweep.ensures.cause.later in
    fails_to_mount (g.D.Disk.state c.args.disk) (g.D.Disk.state c.in-Err-sweep.disk) DiskFault (g.met.D.Disk.counts_now c.in-Err-sweep.disk)
    (swept_moments g.D.Disk.state c.args.disk c.read_geometry.new.disk c.in-Ok-open_store.store (g.met.D.Disk.seen_is_image c.args.disk) c.requires
    c.read_geometry.ensures.same c.in-Ok-open_store.ensures.size c.in-Ok-open_store.ensures.map c.in-Ok-open_store.ensures.lasting c.in-Ok.geometry c.in-Ok.ensures.found
    (g.D.Disk.state c.in-Err-sweep.disk)
    (opened_stands (g.D.Disk.state c.args.disk) (g.D.Disk.state c.read_geometry.new.disk) (g.D.Disk.state c.in-Ok-open_store.store.disk) (g.met.D.Disk.only_now c.args.disk)
    c.read_geometry.ensures.same c.read_geometry.ensures.time c.in-Ok-open_store.ensures.any_moment) c.in-Err-sweep.ensures.any_moment) (omega (arith, first, then, last))
    (λ is. failed_later (g.D.Disk.state c.args.disk) (g.D.Disk.state c.in-Ok-open_store.store.disk) (g.D.Disk.state c.in-Err-sweep.disk) (omega (arith, first, then))
    c.in-Err-sweep.ensures.cause.fault)

pub returns-in-Err-clause-any_moment : goal.returns-in-Err-clause-any_moment
returns-in-Err-clause-any_moment g c =
    opened_stands (g.D.Disk.state c.args.disk) (g.D.Disk.state c.read_geometry.new.disk) (g.D.Disk.state c.in-Err.fault.1) (g.met.D.Disk.only_now c.args.disk)
    c.read_geometry.ensures.same c.read_geometry.ensures.time c.in-Err.ensures.any_moment

pub returns-in-Err-clause-failed : goal.returns-in-Err-clause-failed
returns-in-Err-clause-failed g c =
    let old = g.D.Disk.state c.args.disk in
    let mid = g.D.Disk.state c.read_geometry.new.disk in
    let new = g.D.Disk.state c.in-Err.fault.1 in
    let first = c.read_geometry.ensures.cause.later in
    let then = c.in-Err.ensures.later in
    fails_to_mount old new c.in-Err.fault.0 (g.met.D.Disk.counts_now c.in-Err.fault.1)
    (opened_stands old mid new (g.met.D.Disk.only_now c.args.disk) c.read_geometry.ensures.same c.read_geometry.ensures.time c.in-Err.ensures.any_moment)
    (omega (arith, first, then)) (device_failed old mid new c.in-Err.fault.0 first c.in-Err.ensures.cause)

pub returns-in_default-clause-failed : goal.returns-in_default-clause-failed
returns-in_default-clause-failed g c =
    fails_to_mount (g.D.Disk.state c.args.disk) (g.D.Disk.state c.read_geometry.new.disk) DiskFault (g.met.D.Disk.counts_now c.read_geometry.new.disk)
    (same_stands (g.D.Disk.state c.args.disk) (g.D.Disk.state c.read_geometry.new.disk) (g.met.D.Disk.only_now c.args.disk) c.read_geometry.ensures.same c.read_geometry.ensures.time)
    c.read_geometry.ensures.cause.later (λ is. c.in_default.ensures.cause.fault)

pub returns-in_default-new-clause-any_moment : goal.returns-in_default-new-clause-any_moment
returns-in_default-new-clause-any_moment g c =
    same_stands (g.D.Disk.state c.args.disk) (g.D.Disk.state c.read_geometry.new.disk) (g.met.D.Disk.only_now c.args.disk) c.read_geometry.ensures.same c.read_geometry.ensures.time

pub returns-in_default-new-clause-failed : goal.returns-in_default-new-clause-failed
returns-in_default-new-clause-failed g c =
    fails_to_mount (g.D.Disk.state c.args.disk) (g.D.Disk.state c.read_geometry.new.disk) OutOfMemory (g.met.D.Disk.counts_now c.read_geometry.new.disk)
    (same_stands (g.D.Disk.state c.args.disk) (g.D.Disk.state c.read_geometry.new.disk) (g.met.D.Disk.only_now c.args.disk) c.read_geometry.ensures.same c.read_geometry.ensures.time)
    c.read_geometry.ensures.cause.later (λ is. absurd cc)
