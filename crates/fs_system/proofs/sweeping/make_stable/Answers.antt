use Rattle.std.proofs.Common.{sym, subst}
use Rattle.sector_txn.specs.Images.{LeavesOldOr}
use Rattle.sector_txn.specs.Stores.{present}
use Rattle.fs_system.proofs.Sweeps.{flushed_images, flushed_stable, flushed_tree}
use Rattle.fs_system.proofs.sweeping.make_stable.Goals as goal

pub returns-in-Ok-clause-kept : goal.returns-in-Ok-clause-kept
returns-in-Ok-clause-kept g c = λ p t h.
    let state = g.D.Disk.state in
    let flushed = c.in-Ok.ensures in
    flushed_tree (state c.args.store.disk) (state c.in-Ok.store.disk) p (present state c.args.store) (present state c.in-Ok.store) t flushed.images.size flushed.map flushed.lasting h

pub returns-in-Ok-clause-lasting : goal.returns-in-Ok-clause-lasting
returns-in-Ok-clause-lasting g c = λ p t h.
    let state = g.D.Disk.state in
    let flushed = c.in-Ok.ensures in
    flushed_stable (state c.args.store.disk) (state c.in-Ok.store.disk) p (present state c.args.store) t flushed.images.size flushed.lasting h

pub returns-in-Ok-clause-any_moment : goal.returns-in-Ok-clause-any_moment
returns-in-Ok-clause-any_moment g c = λ p.
    let state = g.D.Disk.state in
    flushed_images (state c.args.store.disk) (state c.in-Ok.store.disk) p (present state c.args.store) c.in-Ok.ensures.images

pub returns-in-Err-clause-any_moment : goal.returns-in-Err-clause-any_moment
returns-in-Err-clause-any_moment g c = λ p.
    let state = g.D.Disk.state in
    let map = present state c.args.store in
    let old = state c.args.store.disk in
    let run : LeavesOldOr map old (state c.into_disk.result) = subst (λ k. LeavesOldOr map old (state k)) (sym c.into_disk.ensures) c.in-Err.ensures.images in
    flushed_images old (state c.into_disk.result) p map run
