use Rattle.std.proofs.Common.{◌≡◌, ◌∙◌, ap, sym, subst}
use Rattle.fs_layout.specs.Header.{header_of}
use Rattle.redo_journal.specs.Batch.{with_batch}
use Rattle.redo_journal.specs.Meaning.{data_of}
use Rattle.redo_journal.specs.States.{header_at}
use Rattle.redo_journal.proofs.Meaning.{data_super, super_on_disk}
use Rattle.sector_txn.specs.Stores.{all_waiting, map_before, map_now}
use Rattle.sector_txn.proofs.Commits.{both_on_disk}
use Rattle.sector_txn.proofs.store.Store.begin.Goals as goal

pub returns-clause-header : goal.returns-clause-header
unfolding map_now map_before
returns-clause-header g c =
    let disk = g.D.Disk.state c.self.inside.journal in
    let placed = c.self.inside.waiting.placed.value.entries in
    let logged = c.self.inside.waiting.logged.value.entries in
    let on_disk = both_on_disk (header_at disk.seen) disk.size placed logged c.self.invariant.1.places c.self.invariant.1.on_disk in
    subst (λ delta. header_at disk.seen ≡ header_of (with_batch delta (with_batch (all_waiting placed logged) (data_of disk)) 0)) (sym c.self.invariant.0)
    (ap header_of (sym (super_on_disk (all_waiting placed logged) _ _ (data_of disk) on_disk ∙ data_super disk)))
