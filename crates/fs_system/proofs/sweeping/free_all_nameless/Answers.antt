use Rattle.std.proofs.Common.{sym, subst}
use Rattle.sector_disk.specs.Disk.{LeavesOnly}
use Rattle.sector_txn.specs.Stores.{present}
use Rattle.fs_model.specs.Stands.{room_of}
use Rattle.fs_system.specs.Sweeping.{StandsPruned}
use Rattle.fs_system.proofs.Sweeps.{sweeping_begun, sweeping_on, sweeping_stable, sweeping_ends, keeps_on, err_cause, err_disk}
use Rattle.fs_system.proofs.sweeping.free_all_nameless.Goals as goal

pub loop-ino-init : goal.loop-ino-init
loop-ino-init g c =
    let state = g.D.Disk.state in
    sweeping_begun c.args.geometry (present state c.args.store) (state c.args.store.disk) (g.met.D.Disk.only_now c.args.store.disk)

pub free_nameless-requires-clause-tree : goal.free_nameless-requires-clause-tree
free_nameless-requires-clause-tree g c =
    let some = c.requires.tree in
    let left = c.loop-ino.invariant.each some.0 some.1 in
    (left.0, left.1)

pub loop-ino-preserved : goal.loop-ino-preserved
loop-ino-preserved g c =
    let one = c.in_ok-freed.ensures in
    let then = c.in_ok-store.ensures in
    sweeping_stable (sweeping_on c.loop-ino.invariant one.frees one.any_moment one.size one.cause.later one.quiet) (then.kept c.args.geometry) (then.any_moment c.args.geometry) then.size then.cause.later then.quiet

pub returns-in_err-freed-clause-any_moment : goal.returns-in_err-freed-clause-any_moment
returns-in_err-freed-clause-any_moment g c = λ t h.
    let state = g.D.Disk.state in
    let old = state c.args.store.disk in
    let r = c.from_residual.ensures in
    subst (λ k. LeavesOnly old (state k) (StandsPruned (room_of c.args.geometry) t)) (sym (err_disk c.from_residual.result c.in_err-freed.field-0.0 r.0 r.1))
    (keeps_on c.loop-ino.invariant c.in_err-freed.ensures.any_moment t h)

pub returns-in_err-store-clause-any_moment : goal.returns-in_err-store-clause-any_moment
returns-in_err-store-clause-any_moment g c = λ t h.
    let state = g.D.Disk.state in
    let old = state c.args.store.disk in
    let r = c.from_residual-in_err-store.ensures in
    let one = c.in_ok-freed.ensures in
    let so_far = sweeping_on c.loop-ino.invariant one.frees one.any_moment one.size one.cause.later one.quiet in
    subst (λ k. LeavesOnly old (state k) (StandsPruned (room_of c.args.geometry) t)) (sym (err_disk c.from_residual-in_err-store.result c.in_err-store.field-0.0 r.0 r.1))
    (keeps_on so_far (c.in_err-store.ensures.any_moment c.args.geometry) t h)

pub returns-in_err-freed-clause-cause : goal.returns-in_err-freed-clause-cause
returns-in_err-freed-clause-cause g c =
    let state = g.D.Disk.state in
    let r = c.from_residual.ensures in
    let disk = err_disk c.from_residual.result c.in_err-freed.field-0.0 r.0 r.1 in
    err_cause state (state c.args.store.disk) (state c.loop-ino.store.disk) c.from_residual.result c.in_err-freed.field-0.0 disk c.loop-ino.invariant.later c.in_err-freed.ensures.cause

pub returns-in_err-store-clause-cause : goal.returns-in_err-store-clause-cause
returns-in_err-store-clause-cause g c =
    let state = g.D.Disk.state in
    let r = c.from_residual-in_err-store.ensures in
    let disk = err_disk c.from_residual-in_err-store.result c.in_err-store.field-0.0 r.0 r.1 in
    let one = c.in_ok-freed.ensures in
    let so_far = sweeping_on c.loop-ino.invariant one.frees one.any_moment one.size one.cause.later one.quiet in
    err_cause state (state c.args.store.disk) (state c.in_ok-freed.freed.disk) c.from_residual-in_err-store.result c.in_err-store.field-0.0 disk so_far.later c.in_err-store.ensures.cause

pub returns-clause-swept : goal.returns-clause-swept
returns-clause-swept g c = λ t h. sweeping_ends c.loop-ino-test.false c.loop-ino.invariant t h
