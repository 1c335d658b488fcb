use Rattle.std.proofs.Common.{◌≡◌, ◌∙◌, ◌+◌, ◌-◌, ◌≤◌, List, length, ap, arith, refl, sym, subst}
use Rattle.fs_layout.specs.Header.{max_delta}
use Rattle.redo_journal.specs.Batch.{BatchView, Entry, IsOnDisk, added, with_batch}
use Rattle.redo_journal.specs.States.{header_at}
use Rattle.redo_journal.specs.Meaning.{data_of, SameMap}
use Rattle.redo_journal.proofs.Meaning.{mapped_by, super_on_disk, with_batch_same}
use Rattle.sector_txn.specs.Images.{LeavesOneOf, LogsAll}
use Rattle.redo_journal.proofs.Causes.{cause_as, cause_at_err, cause_at_ok, told_as, told_at_err, told_at_ok}
use Rattle.sector_disk.specs.Disk.{DiskState}
use Rattle.sector_txn.specs.Stores.{IsTxn, TxnView, all_waiting, map_before, map_now, present}
use Rattle.sector_txn.proofs.Images.{first_map}
use Rattle.sector_txn.proofs.store.Txn.keep.Goals as goal

-- what is committed first, as the transaction is seen
logs : {D : Type 0} (state : D → DiskState) (new : DiskState) {inside seen : TxnView D} → inside ≡ seen → (header_at (state inside.disk).seen ≡ 0 → LogsAll inside.waiting (state inside.disk) new)
    → header_at (state seen.disk).seen ≡ 0 → LogsAll seen.waiting (state seen.disk) new
logs state new is run = subst (λ (t : TxnView _). header_at (state t.disk).seen ≡ 0 → LogsAll t.waiting (state t.disk) new) is run

pub returns-in-Ok-clause-map : goal.returns-in-Ok-clause-map
unfolding map_now map_before present
returns-in-Ok-clause-map g c =
    let state = g.D.Disk.state in
    let after = data_of (state c.in-Ok.journal) in
    let delta = c.self.inside.delta.value.entries in
    let was = c.self.inside.waiting in
    let mid = c.commit_if_full.new.waiting in
    let now = c.keep.new.waiting in
    let waited = with_batch (all_waiting was.placed.value.entries was.logged.value.entries) (data_of (state c.self.inside.journal)) in
    let there = super_on_disk delta _ _ waited c.self.invariant.0.on_disk in
    subst (λ txn. SameMap (with_batch (all_waiting now.placed.value.entries now.logged.value.entries) after) (map_now state txn)) c.self.view_is
    (λ n part.
    c.keep.ensures.map after n
    ∙ ap (λ (b : BatchView). with_batch b.entries (with_batch (all_waiting mid.placed.value.entries mid.logged.value.entries) after) n) c.deref-in-Ok.ensures
    ∙ with_batch_same delta _ _ n (c.in-Ok.ensures.same n (mapped_by (with_batch delta waited) waited n there part)))

pub returns-in-Ok-clause-images : goal.returns-in-Ok-clause-images
unfolding map_now map_before
returns-in-Ok-clause-images g c =
    let state = g.D.Disk.state in
    subst (λ txn. LeavesOneOf (map_before state txn) (map_now state txn) (state txn.disk) (state c.in-Ok.journal)) c.self.view_is (first_map c.in-Ok.ensures.images)

pub returns-in-Err-clause-images : goal.returns-in-Err-clause-images
unfolding map_now map_before
returns-in-Err-clause-images g c =
    let state = g.D.Disk.state in
    subst (λ txn. LeavesOneOf (map_before state txn) (map_now state txn) (state txn.disk) (state c.in-Err.broken)) c.self.view_is (first_map c.in-Err.ensures.images)

pub returns-in-Ok-clause-alone : goal.returns-in-Ok-clause-alone
returns-in-Ok-clause-alone g c = logs g.D.Disk.state (g.D.Disk.state c.in-Ok.journal) c.self.view_is c.in-Ok.ensures.alone

pub returns-in-Err-clause-alone : goal.returns-in-Err-clause-alone
returns-in-Err-clause-alone g c = logs g.D.Disk.state (g.D.Disk.state c.in-Err.broken) c.self.view_is c.in-Err.ensures.alone

pub returns-in-Ok-clause-header : goal.returns-in-Ok-clause-header
returns-in-Ok-clause-header g c =
    let state = g.D.Disk.state in
    subst (λ txn. header_at (state c.in-Ok.journal).seen ≡ header_at (state txn.disk).seen) c.self.view_is c.in-Ok.ensures.header

pub keep-requires-clause-places : goal.keep-requires-clause-places
keep-requires-clause-places g c =
    let mid = c.commit_if_full.new.waiting in
    subst (λ (b : BatchView). length mid.placed.value.entries + length b.entries ≤ mid.placed.value.most) (c.deref.ensures ∙ sym c.deref-in-Ok.ensures) c.in-Ok.ensures.places

pub keep-requires-clause-room : goal.keep-requires-clause-room
keep-requires-clause-room g c =
    let mid = c.commit_if_full.new.waiting in
    subst (λ (b : BatchView). length mid.logged.value.entries + added mid.logged.value.entries b.entries ≤ mid.logged.value.most) (c.deref.ensures ∙ sym c.deref-in-Ok.ensures) c.in-Ok.ensures.room

pub keep-requires-clause-on_disk : goal.keep-requires-clause-on_disk
keep-requires-clause-on_disk g c =
    let old = g.D.Disk.state c.self.inside.journal in
    let new = g.D.Disk.state c.in-Ok.journal in
    subst (λ (b : BatchView). IsOnDisk (header_at new.seen) new.size b.entries) (sym c.deref-in-Ok.ensures)
    (subst (λ h. IsOnDisk h new.size c.self.inside.delta.value.entries) (sym c.in-Ok.ensures.header)
    (subst (λ k. IsOnDisk (header_at old.seen) k c.self.inside.delta.value.entries) (sym c.in-Ok.ensures.images.size) c.self.invariant.0.on_disk))

pub invariant_of-result : goal.invariant_of-result
invariant_of-result g c = (
  c.clear.ensures.empty,
  c.keep.ensures.waits,
  c.clear.ensures.most ∙ ap (λ (b : BatchView). b.most) c.deref_mut.ensures.value ∙ c.self.invariant.2 ∙ ap max_delta (sym c.in-Ok.ensures.header),
)

pub commit_if_full-requires : goal.commit_if_full-requires
commit_if_full-requires g c =
    record { waits = c.self.invariant.1; few = subst (λ (b : BatchView). length b.entries ≤ max_delta (header_at (g.D.Disk.state c.self.inside.journal).seen)) (sym c.deref.ensures) c.self.invariant.0.few }

pub keep-requires-clause-waits : goal.keep-requires-clause-waits
keep-requires-clause-waits g c = c.in-Ok.ensures.waits

-- without changes nothing is put
none_put : {D : Type 0} (state : D → DiskState) {inside seen : TxnView D} {entries : List Entry} → inside ≡ seen → IsTxn (state inside.disk) inside.delta → entries ≡ inside.delta
    → max_delta (header_at (state seen.disk).seen) - length seen.delta ≡ max_delta (header_at (state seen.disk).seen) → length entries ≡ 0
none_put state {inside} {seen} is txn same none =
    let few = subst (λ t. length t.delta ≤ max_delta (header_at (state t.disk).seen)) is txn.few in
    omega (arith, few, none, ap length same, ap (λ (t : TxnView _). length t.delta) is)

pub returns-in-Ok-clause-empty : goal.returns-in-Ok-clause-empty
returns-in-Ok-clause-empty g c = λ none.
    let kept = c.in-Ok.ensures.empty (none_put g.D.Disk.state c.self.view_is c.self.invariant.0 (ap (λ (b : BatchView). b.entries) c.deref.ensures) none) in
    let same : c.in-Ok.journal ≡ c.self.inside.journal = cc kept in
    (refl, same ∙ ap (λ (t : TxnView _). t.disk) c.self.view_is)

pub returns-in-Err-clause-empty : goal.returns-in-Err-clause-empty
returns-in-Err-clause-empty g c = λ none.
    let kept = c.in-Err.ensures.empty (none_put g.D.Disk.state c.self.view_is c.self.invariant.0 (ap (λ (b : BatchView). b.entries) c.deref.ensures) none) in
    let other : ⊥ = cc kept in
    absurd other

pub returns-in-Ok-clause-cause : goal.returns-in-Ok-clause-cause
returns-in-Ok-clause-cause g c = cause_as (λ (t : TxnView g.row.D.Denot). g.D.Disk.state t.disk) c.self.view_is (cause_at_ok c.in-Ok.ensures.cause)

pub returns-in-Ok-clause-told : goal.returns-in-Ok-clause-told
returns-in-Ok-clause-told g c = told_as (λ (t : TxnView g.row.D.Denot). g.D.Disk.state t.disk) c.self.view_is (told_at_ok c.in-Ok.ensures.told)

pub returns-in-Err-clause-cause : goal.returns-in-Err-clause-cause
returns-in-Err-clause-cause g c = cause_as (λ (t : TxnView g.row.D.Denot). g.D.Disk.state t.disk) c.self.view_is (cause_at_err c.in-Err.ensures.cause)

pub returns-in-Err-clause-told : goal.returns-in-Err-clause-told
returns-in-Err-clause-told g c = told_as (λ (t : TxnView g.row.D.Denot). g.D.Disk.state t.disk) c.self.view_is (told_at_err c.in-Err.ensures.told)
