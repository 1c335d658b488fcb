use Rattle.std.proofs.Common.{◌≡◌, ◌∙◌, ap, subst, sym, refl}
use Rattle.fs_layout.specs.Bytes.{SectorMap}
use Rattle.fs_layout.specs.Header.{max_delta}
use Rattle.redo_journal.specs.Batch.{with_batch}
use Rattle.redo_journal.specs.Meaning.{EachReadsAs, SameMap, data_of}
use Rattle.redo_journal.specs.States.{header_at}
use Rattle.redo_journal.proofs.Meaning.{reads_same}
use Rattle.sector_txn.specs.Stores.{all_waiting, present}
use Rattle.sector_txn.proofs.Commits.{map_none}
use Rattle.sector_txn.proofs.Images.{store_left, store_logs}
use Rattle.sector_txn.proofs.store.Store.flush.Goals as goal

pub returns-in-Ok-clause-map : goal.returns-in-Ok-clause-map
unfolding present
returns-in-Ok-clause-map g c =
    let state = g.D.Disk.state in
    let after = data_of (state c.in-Ok.journal) in
    let waits = c.commit.new.waiting in
    subst (λ store. SameMap (with_batch (all_waiting waits.placed.value.entries waits.logged.value.entries) after) (present state store)) c.self.view_is
    (subst (λ (f : SectorMap). SameMap f (with_batch (all_waiting c.self.inside.waiting.placed.value.entries c.self.inside.waiting.logged.value.entries) (data_of (state c.self.inside.journal))))
    (sym (map_none waits.placed.value.entries waits.logged.value.entries after c.in-Ok.ensures.placed c.in-Ok.ensures.logged)) c.in-Ok.ensures.changed)

pub returns-in-Ok-clause-images : goal.returns-in-Ok-clause-images
unfolding present
returns-in-Ok-clause-images g c = store_left g.D.Disk.state c.self.view_is c.in-Ok.ensures.images

pub returns-in-Err-clause-images : goal.returns-in-Err-clause-images
unfolding present
returns-in-Err-clause-images g c = store_left g.D.Disk.state c.self.view_is c.in-Err.ensures.images

pub returns-in-Ok-clause-alone : goal.returns-in-Ok-clause-alone
returns-in-Ok-clause-alone g c = store_logs g.D.Disk.state c.self.view_is c.in-Ok.ensures.alone

pub returns-in-Err-clause-alone : goal.returns-in-Err-clause-alone
returns-in-Err-clause-alone g c = store_logs g.D.Disk.state c.self.view_is c.in-Err.ensures.alone

pub returns-in-Ok-clause-lasting : goal.returns-in-Ok-clause-lasting
unfolding present
returns-in-Ok-clause-lasting g c =
    let state = g.D.Disk.state in
    let after = state c.in-Ok.journal in
    subst (λ store. EachReadsAs (present state store) after) c.self.view_is (λ image is. reads_same after.size after.size _ _ refl c.in-Ok.ensures.changed image (c.tell_ready.ensures image is))

pub returns-in-Ok-clause-header : goal.returns-in-Ok-clause-header
returns-in-Ok-clause-header g c =
    let state = g.D.Disk.state in
    subst (λ store. header_at (state c.in-Ok.journal).seen ≡ header_at (state store.disk).seen) c.self.view_is c.in-Ok.ensures.header

pub invariant_of-result : goal.invariant_of-result
invariant_of-result g c = (c.self.invariant.0, c.in-Ok.ensures.waits, c.self.invariant.2 ∙ ap max_delta (sym c.in-Ok.ensures.header))
