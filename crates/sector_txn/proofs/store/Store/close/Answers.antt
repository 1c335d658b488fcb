use Rattle.std.proofs.Common.{subst, refl}
use Rattle.std.specs.Prelude.{IfOk}
use Rattle.std.proofs.lemmas.Result.{IfOk-weaker}
use Rattle.redo_journal.specs.Meaning.{EachReadsAs, SameMap, data_of, disk_of}
use Rattle.redo_journal.proofs.Meaning.{reads_same, same_chain}
use Rattle.sector_txn.specs.Images.{LeavesOldOr}
use Rattle.sector_txn.specs.Stores.{present}
use Rattle.sector_txn.proofs.Images.{closed_left, if_ok_both, logs_closed, store_left, store_logs}
use Rattle.sector_txn.proofs.store.Store.close.Goals as goal

pub returns-clause-images : goal.returns-clause-images
unfolding present
returns-clause-images g c = store_left g.D.Disk.state c.self.view_is c.in-Err.ensures.images

pub returns-in-Ok-clause-images : goal.returns-in-Ok-clause-images
unfolding present
returns-in-Ok-clause-images g c =
    let state = g.D.Disk.state in
    let new = state (disk_of c.close.result) in
    subst (λ store. LeavesOldOr (present state store) (state store.disk) new) c.self.view_is
    (closed_left _ (state c.self.inside.journal) (state c.in-Ok.journal) new c.close.ensures.size c.in-Ok.ensures.changed c.in-Ok.ensures.images c.close.ensures.any_moment)

pub returns-clause-alone : goal.returns-clause-alone
returns-clause-alone g c = store_logs g.D.Disk.state c.self.view_is c.in-Err.ensures.alone

pub returns-in-Ok-clause-alone : goal.returns-in-Ok-clause-alone
returns-in-Ok-clause-alone g c =
    let state = g.D.Disk.state in
    store_logs state c.self.view_is
    (λ header. logs_closed _ (state c.self.inside.journal) (state c.in-Ok.journal) (state (disk_of c.close.result)) c.in-Ok.ensures.images.size c.in-Ok.ensures.changed (c.in-Ok.ensures.alone header) c.close.ensures.any_moment)

pub returns-in-Ok-clause-map : goal.returns-in-Ok-clause-map
unfolding present
returns-in-Ok-clause-map g c =
    let state = g.D.Disk.state in
    subst (λ store. IfOk c.close.result (λ disk. SameMap (data_of (state disk)) (present state store))) c.self.view_is
    (IfOk-weaker c.close.result _ _ (λ disk same. same_chain (data_of (state disk)) (data_of (state c.in-Ok.journal)) _ same c.in-Ok.ensures.changed) c.close.ensures.same)

pub returns-in-Ok-clause-lasting : goal.returns-in-Ok-clause-lasting
unfolding present
returns-in-Ok-clause-lasting g c =
    let state = g.D.Disk.state in
    let mid = state c.in-Ok.journal in
    subst (λ store. IfOk c.close.result (λ disk. EachReadsAs (present state store) (state disk))) c.self.view_is
    (if_ok_both c.close.result (λ disk same lasting image is.
    reads_same (state disk).size (state disk).size (data_of (state disk)) _ refl (same_chain (data_of (state disk)) (data_of mid) _ same c.in-Ok.ensures.changed) image (lasting image is))
    c.close.ensures.same c.close.ensures.lasting)
