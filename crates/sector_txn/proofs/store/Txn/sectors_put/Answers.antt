use Rattle.std.proofs.Common.{◌≡◌, ◌∙◌, ◌↔◌, ◌≤◌, ◌<◌, true, Contains, ap, sym, subst}
use Rattle.std.proofs.lemmas.List.Elements.{All-contains}
use Rattle.fs_layout.specs.Header.{log_end}
use Rattle.redo_journal.specs.Batch.{BatchView, has_entry, targets, with_batch}
use Rattle.redo_journal.specs.Meaning.{data_of}
use Rattle.redo_journal.specs.States.{header_at}
use Rattle.sector_txn.specs.Stores.{all_waiting, map_before, map_now}
use Rattle.sector_txn.proofs.Delta.{has_in_targets}
use Rattle.sector_txn.proofs.Pairs.{with_batch_apart}
use Rattle.sector_txn.proofs.store.Txn.sectors_put.Goals as goal

pub returns-clause-put : goal.returns-clause-put
returns-clause-put g c = λ n.
    let delta = c.self.inside.delta.value.entries in
    let listed = c.sectors.ensures.sectors ∙ ap (λ (b : BatchView). targets b.entries) c.deref.ensures in
    subst (λ txn. Contains c.sectors.result.now n ↔ (has_entry txn.delta n ≡ true)) c.self.view_is
    (subst (λ ns. Contains ns n ↔ (has_entry delta n ≡ true)) (sym listed) (has_in_targets delta n))

pub returns-clause-behind : goal.returns-clause-behind
returns-clause-behind g c = λ n has.
    let disk = g.D.Disk.state c.self.inside.journal in
    let listed = c.sectors.ensures.sectors ∙ ap (λ (b : BatchView). targets b.entries) c.deref.ensures in
    subst (λ txn. log_end (header_at (g.D.Disk.state txn.disk).seen) ≤ n) c.self.view_is
    (All-contains (λ k. (log_end (header_at disk.seen) ≤ k) × (k < disk.size)) (targets c.self.inside.delta.value.entries) n c.self.invariant.0.on_disk
    (subst (λ ns. Contains ns n) listed has)).0

pub returns-clause-others : goal.returns-clause-others
unfolding map_now map_before
returns-clause-others g c = λ n apart.
    let state = g.D.Disk.state in
    let listed = c.sectors.ensures.sectors ∙ ap (λ (b : BatchView). targets b.entries) c.deref.ensures in
    subst (λ txn. map_now state txn n ≡ map_before state txn n) c.self.view_is
    (with_batch_apart c.self.inside.delta.value.entries (with_batch (all_waiting c.self.inside.waiting.placed.value.entries c.self.inside.waiting.logged.value.entries) (data_of (state c.self.inside.journal))) n
    (λ has. apart (subst (λ ns. Contains ns n) (sym listed) has)))
