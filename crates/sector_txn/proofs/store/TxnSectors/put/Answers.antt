use Rattle.std.proofs.Common.{◌∙◌, sym, subst, ap, arith, false, ℕ, length, ◌≡◌, ◌-◌, ◌<◌, ◌≤◌}
use Rattle.sector_disk.specs.Disk.{DiskState}
use Rattle.fs_layout.specs.Header.{max_delta, log_end}
use Rattle.redo_journal.specs.Batch.{BatchView, IsOnDisk, has_entry}
use Rattle.redo_journal.specs.States.{header_at}
use Rattle.sector_txn.specs.Sectors.{IsPut}
use Rattle.sector_txn.specs.Stores.{TxnView, all_waiting, txn_state}
use Rattle.sector_txn.proofs.Delta.{delta_put, few_after}
use Rattle.sector_txn.proofs.store.TxnSectors.put.Goals as goal

pub returns : goal.returns
returns g c =
    let inside = c.self.inside in
    let state = g.D.Disk.state in
    let n = c.args.n in
    let content = c.args.from.now in
    let most = max_delta (header_at (state inside.journal).seen) in
    let room = subst (λ t. has_entry t.delta n ≡ false → 0 < max_delta (header_at (state t.disk).seen) - length t.delta) (sym c.self.view_is) c.requires.room in
    let after = txn_state state record { disk = inside.journal; waiting = (all_waiting inside.waiting.placed.value.entries inside.waiting.logged.value.entries); delta = c.put.new.self.entries } in
    subst (λ t. IsPut n content (txn_state state t) after) c.self.view_is
    (subst (λ (b : BatchView). length b.entries ≤ most → (has_entry b.entries n ≡ false → 0 < most - length b.entries)
    → IsPut n content (txn_state state record { disk = inside.journal; waiting = (all_waiting inside.waiting.placed.value.entries inside.waiting.logged.value.entries); delta = b.entries }) after) c.deref_mut.ensures.value
    (λ few free. delta_put state inside.journal (all_waiting inside.waiting.placed.value.entries inside.waiting.logged.value.entries) c.deref_mut.result.now.entries c.put.new.self.entries n content few free c.put.ensures.put c.put.ensures.map c.put.ensures.len)
    c.self.invariant.0.few room)

-- the room that there is, in the words of the delta
free : {D : Type 0} (state : D → DiskState) (n : ℕ) (txn inside : TxnView D) → inside ≡ txn → (has_entry txn.delta n ≡ false → 0 < max_delta (header_at (state txn.disk).seen) - length txn.delta)
    → has_entry inside.delta n ≡ false → 0 < max_delta (header_at (state inside.disk).seen) - length inside.delta
free state n txn inside is room = subst (λ t. has_entry t.delta n ≡ false → 0 < max_delta (header_at (state t.disk).seen) - length t.delta) (sym is) room

pub put-requires-clause-room : goal.put-requires-clause-room
put-requires-clause-room g c = λ none.
    let state = g.D.Disk.state in
    let same = ap (λ (b : BatchView). b.entries) c.deref_mut.ensures.value in
    let room = free state c.args.n c.args.self.now _ c.self.view_is c.requires.room (subst (λ d. has_entry d c.args.n ≡ false) same none) in
    omega (arith, room, ap length same, ap (λ (b : BatchView). b.most) c.deref_mut.ensures.value, c.self.invariant.2)

pub invariant_of-self : goal.invariant_of-self
invariant_of-self g c =
    let state = g.D.Disk.state in
    let n = c.args.n in
    let disk = state c.self.inside.journal in
    let header = header_at disk.seen in
    let same = ap (λ (b : BatchView). b.entries) c.deref_mut.ensures.value in
    let reserved = ap (λ (b : BatchView). b.most) c.deref_mut.ensures.value in
    let was = c.self.invariant.0 in
    let room = free state n c.args.self.now _ c.self.view_is c.requires.room in (
      record {
        few =
            few_after (max_delta header) n c.deref_mut.result.now.entries c.put.new.self.entries (omega (arith, was.few, ap length same)) (λ none. let space = room (subst (λ d. has_entry d n ≡ false) same none) in omega (arith, space, ap length same))
            c.put.ensures.len;
        on_disk = c.put.ensures.on_disk header disk.size (subst (λ t. log_end (header_at (state t.disk).seen) ≤ n) (sym c.self.view_is) c.requires.part)
            (subst (λ t. n < (state t.disk).size) (sym c.self.view_is) c.requires.on_disk) (subst (IsOnDisk header disk.size) (sym same) was.on_disk);
      },
      c.self.invariant.1,
      c.put.ensures.most ∙ reserved ∙ c.self.invariant.2,
    )
