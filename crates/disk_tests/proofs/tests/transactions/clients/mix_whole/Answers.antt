use Rattle.std.proofs.Common.{◌≡◌, ◌≤◌, ◌∙◌, ℕ, eqb, arith, ap, refl, sym, subst, inl, inr}
use Rattle.std.specs.Prelude.{slice_set, slice_index}
use Rattle.std.proofs.lemmas.Bool.{cases_eq, cond-true, cond-false, eq-eqb, ne_eqb}
use Rattle.std.proofs.lemmas.Result.{IfOk-weaker}
use Rattle.fs_layout.specs.Bytes.{SectorMap}
use Rattle.fs_layout.specs.Header.{header_of}
use Rattle.redo_journal.specs.Meaning.{IsMapped, SameMap}
use Rattle.redo_journal.specs.States.{header_at}
use Rattle.redo_journal.proofs.Meaning.{mapped_by, same_chain}
use Rattle.sector_disk.specs.Disk.{DiskState}
use Rattle.sector_txn.specs.Images.{LeavesOneOf}
use Rattle.disk_tests.specs.Mixed.{mixed_content, with_mixed}
use Rattle.sector_txn.specs.Stores.{StoreView, TxnView, present, map_before, map_now, txn_state, disk_after}
use Rattle.sector_txn.proofs.Images.{after_reads, maps_same, nothing_left}
use Rattle.disk_tests.proofs.tests.transactions.clients.mix_whole.Goals as goal

-- the map with the mixed content tells the same header
mixed_super : (old : SectorMap) (first second at : ℕ) → 1 ≤ at → with_mixed old first second at 0 ≡ old 0
mixed_super old first second at behind = cond-false (eqb 0 at) (mixed_content old first second) (old 0) (ne_eqb 0 at (λ e. omega (arith, e, behind)))

mixed_same : (old from now : SectorMap) (header first second at : ℕ) → header ≡ header_of (old 0) → IsMapped header first → IsMapped header second → 1 ≤ at → SameMap from old
    → now at ≡ mixed_content from first second → ((n : ℕ) → (n ≡ at → ⊥) → now n ≡ from n) → SameMap now (with_mixed old first second at)
mixed_same old from now header first second at tells first_part second_part behind same here others n part =
    let content = mixed_content old first second in
    let mapped = mapped_by (with_mixed old first second at) old n (mixed_super old first second at behind) part in
    let at_first = same first (subst (λ h. IsMapped h first) tells first_part) in
    let at_second = same second (subst (λ h. IsMapped h second) tells second_part) in
    elim (cases_eq n at) [
      | inl is ↦
          ap now is
          ∙ here
          ∙ (λ i. slice_set (at_first i) 0 (slice_index (at_second i) 0))
          ∙ sym (cond-true (eqb n at) content (old n) (eq-eqb n at is))
      | inr other ↦ others n other ∙ same n mapped ∙ sym (cond-false (eqb n at) content (old n) (ne_eqb n at other))
    ]

-- a transaction that begins has the header that the store's map tells
tells_header : {D : Type 0} (state : D → DiskState) (store : StoreView D) (begun : TxnView D) → begun.disk ≡ store.disk → SameMap (map_now state begun) (present state store)
    → (txn_state state begun).header ≡ header_of (map_now state begun 0) → header_at (state store.disk).seen ≡ header_of (present state store 0)
tells_header state store begun disk map header =
    ap (λ (d : _). header_at (state d).seen) (sym disk) ∙ header ∙ ap header_of (map 0 (inl refl))

-- the map of a transaction that has mixed its content
mixed_after : {D : Type 0} (state : D → DiskState) (store : StoreView D) (begun : TxnView D) (now : SectorMap) (first second at : ℕ) → begun.disk ≡ store.disk
    → SameMap (map_now state begun) (present state store) → (txn_state state begun).header ≡ header_of (map_now state begun 0)
    → IsMapped (header_at (state store.disk).seen) first → IsMapped (header_at (state store.disk).seen) second → 1 ≤ at
    → now at ≡ mixed_content (map_now state begun) first second → ((n : ℕ) → (n ≡ at → ⊥) → now n ≡ map_now state begun n)
    → SameMap now (with_mixed (present state store) first second at)
mixed_after state store begun now first second at disk map header first_part second_part behind here others =
    mixed_same (present state store) (map_now state begun) now _ first second at (tells_header state store begun disk map header) first_part second_part behind map here others

pub returns-in-Ok-clause-map : goal.returns-in-Ok-clause-map
returns-in-Ok-clause-map g c =
    let state = g.D.Disk.state in
    let old = present state c.args.store in
    let began = c.begin-txn.ensures in
    let after = mixed_after state c.args.store c.begin-txn.result (map_now state c.mix.new.s) c.args.first c.args.second c.args.at began.disk began.map began.header
    c.requires.first.0 c.requires.second.0 (omega (arith, c.requires.at.0)) c.in-Ok.ensures.written c.in-Ok.ensures.changes.others in
    IfOk-weaker c.keep.result _ _
    (λ store is. inr (same_chain (present state store) (map_now state c.mix.new.s) (with_mixed old c.args.first c.args.second c.args.at) is after)) c.keep.ensures.map

pub returns-in-Err-clause-map : goal.returns-in-Err-clause-map
returns-in-Err-clause-map g c =
    let state = g.D.Disk.state in
    inl (same_chain (present state c.drop_delta.result) (map_before state c.mix.new.s) (present state c.args.store) c.drop_delta.ensures.map
    (λ n part. c.in-Err.ensures.store.before n ∙ c.begin-txn.ensures.before n part))

pub returns-in-Ok-clause-images : goal.returns-in-Ok-clause-images
returns-in-Ok-clause-images g c =
    let state = g.D.Disk.state in
    let old = present state c.args.store in
    let began = c.begin-txn.ensures in
    let after = mixed_after state c.args.store c.begin-txn.result (map_now state c.mix.new.s) c.args.first c.args.second c.args.at began.disk began.map began.header
    c.requires.first.0 c.requires.second.0 (omega (arith, c.requires.at.0)) c.in-Ok.ensures.written c.in-Ok.ensures.changes.others in
    subst (λ disk. LeavesOneOf old (with_mixed old c.args.first c.args.second c.args.at) (state disk) (state (disk_after c.keep.result))) began.disk
    (after_reads (g.met.D.Disk.only_now c.begin-txn.result.disk) c.in-Ok.ensures.store.reads
    (maps_same (λ n part. c.in-Ok.ensures.store.before n ∙ began.before n part) after c.keep.ensures.images))

pub returns-in-Err-clause-images : goal.returns-in-Err-clause-images
returns-in-Err-clause-images g c =
    let state = g.D.Disk.state in
    let old = present state c.args.store in
    let left = after_reads (g.met.D.Disk.only_now c.begin-txn.result.disk) c.in-Err.ensures.store.reads (nothing_left (g.met.D.Disk.only_now c.mix.new.s.disk)) in
    subst (λ disk. LeavesOneOf old (with_mixed old c.args.first c.args.second c.args.at) (state disk) (state c.drop_delta.result.disk)) c.begin-txn.ensures.disk
    (subst (λ disk. LeavesOneOf old (with_mixed old c.args.first c.args.second c.args.at) (state c.begin-txn.result.disk) (state disk)) (sym c.drop_delta.ensures.disk) left)
