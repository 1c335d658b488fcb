use Rattle.std.proofs.Common.{arith, sym, subst}
use Rattle.sector_disk.specs.Disk.{LeavesOnly}
use Rattle.fs_model.specs.TreeChanges.{pruned}
use Rattle.fs_model.specs.Stands.{room_of}
use Rattle.fs_system.specs.Sweeping.{StandsPruned}
use Rattle.fs_system.proofs.Sweeps.{err_cause, err_disk, keeps_both}
use Rattle.fs_system.proofs.sweeping.sweep.Goals as goal

pub returns-clause-swept : goal.returns-clause-swept
returns-clause-swept g c = λ t h. (c.in_ok-stable.ensures.kept c.args.geometry (pruned t) (c.in_ok-freed.ensures.swept t h)).stored

pub returns-clause-lasting : goal.returns-clause-lasting
returns-clause-lasting g c = λ t h. c.in_ok-stable.ensures.lasting c.args.geometry (pruned t) (c.in_ok-freed.ensures.swept t h)

pub returns-clause-any_moment : goal.returns-clause-any_moment
returns-clause-any_moment g c = keeps_both c.in_ok-freed.ensures.swept c.in_ok-freed.ensures.any_moment (c.in_ok-stable.ensures.any_moment c.args.geometry)

pub returns-clause-cause : goal.returns-clause-cause
returns-clause-cause g c = record { later = omega (arith, c.in_ok-freed.ensures.cause.later, c.in_ok-stable.ensures.cause.later); fault = tt }

pub returns-in_err-freed-clause-any_moment : goal.returns-in_err-freed-clause-any_moment
returns-in_err-freed-clause-any_moment g c = λ t h.
    let state = g.D.Disk.state in
    let r = c.from_residual.ensures in
    subst (λ k. LeavesOnly (state c.args.store.disk) (state k) (StandsPruned (room_of c.args.geometry) t)) (sym (err_disk c.from_residual.result c.in_err-freed.field-0.0 r.0 r.1))
    (c.in_err-freed.ensures.any_moment t h)

pub returns-in_err-freed-clause-cause : goal.returns-in_err-freed-clause-cause
returns-in_err-freed-clause-cause g c =
    let state = g.D.Disk.state in
    let old = state c.args.store.disk in
    let r = c.from_residual.ensures in
    err_cause state old old c.from_residual.result c.in_err-freed.field-0.0 (err_disk c.from_residual.result c.in_err-freed.field-0.0 r.0 r.1) (omega arith) c.in_err-freed.ensures.cause

pub returns-in_err-stable-clause-any_moment : goal.returns-in_err-stable-clause-any_moment
returns-in_err-stable-clause-any_moment g c = λ t h.
    let state = g.D.Disk.state in
    let r = c.from_residual-in_err-stable.ensures in
    let one = c.in_ok-freed.ensures in
    subst (λ k. LeavesOnly (state c.args.store.disk) (state k) (StandsPruned (room_of c.args.geometry) t)) (sym (err_disk c.from_residual-in_err-stable.result c.in_err-stable.field-0.0 r.0 r.1))
    (keeps_both one.swept one.any_moment (c.in_err-stable.ensures.any_moment c.args.geometry) t h)

pub returns-in_err-stable-clause-cause : goal.returns-in_err-stable-clause-cause
returns-in_err-stable-clause-cause g c =
    let state = g.D.Disk.state in
    let r = c.from_residual-in_err-stable.ensures in
    let disk = err_disk c.from_residual-in_err-stable.result c.in_err-stable.field-0.0 r.0 r.1 in
    err_cause state (state c.args.store.disk) (state c.in_ok-freed.freed.disk) c.from_residual-in_err-stable.result c.in_err-stable.field-0.0 disk c.in_ok-freed.ensures.cause.later c.in_err-stable.ensures.cause
