use Rattle.std.proofs.Common.{◌≡◌, ◌∙◌, ◌+◌, ◌<◌, ◌≤◌, ℕ, List, get_or, arith, ap, subst, inl, inr}
use Rattle.std.specs.Prelude.{replicate}
use Rattle.std.proofs.lemmas.Bool.{cases_eq}
use Rattle.std.proofs.lemmas.List.{get_or_default}
use Rattle.std.proofs.lemmas.List.Elements.{Contains-get_or}
use Rattle.fs_layout.specs.Header.{log_end}
use Rattle.sector_txn.specs.Sectors.{lacking}
use Rattle.sector_txn.proofs.TransactionRuns.{changes_put_shared, room_for}
use Rattle.disk_tests.proofs.tests.transactions.clients.clear_all.Goals as goal

pub put-requires-clause-room : goal.put-requires-clause-room
put-requires-clause-room g c =
    let sectors = c.args.sectors.now in
    let now = g.S.Sectors.state c.loop-n.s in
    let enough : lacking now sectors ≤ now.room = omega (arith, c.requires.room, c.loop-n.invariant.changes.room) in
    room_for now sectors (get_or sectors c.loop-n.n-index 0) (Contains-get_or sectors c.loop-n.n-index 0 c.loop-n-test.true) enough

earlier : (sectors : List ℕ) (k i : ℕ) → k < i + 1 → (get_or sectors k 0 ≡ get_or sectors i 0 → ⊥) → k < i
earlier sectors k i low other = elim (cases_eq k i) [
  | inl is ↦ absurd (other (ap (λ j. get_or sectors j 0) is))
  | inr less ↦ omega (arith, low, less)
]

pub loop-n-preserved : goal.loop-n-preserved
loop-n-preserved g c =
    let sectors = c.args.sectors.now in
    let at = get_or sectors c.loop-n.n-index 0 in
    let here = Contains-get_or sectors c.loop-n.n-index 0 c.loop-n-test.true in
    let put = c.put.ensures in
    let new = g.S.Sectors.state c.put.new.self in
    record {
      cleared = λ k low. elim (cases_eq (get_or sectors k 0) at) [
        | inl is ↦ ap new.sectors is ∙ put.sectors.here
        | inr other ↦ put.sectors.others (get_or sectors k 0) other ∙ c.loop-n.invariant.cleared k (earlier sectors k c.loop-n.n-index low other)
      ];
      changes = changes_put_shared c.loop-n.invariant.changes put here here;
    }

pub returns-clause-cleared : goal.returns-clause-cleared
returns-clause-cleared g c = λ n (k, lt, is).
    let sectors = c.args.sectors.now in
    let found : get_or sectors k 0 ≡ n = get_or_default sectors k 0 n lt ∙ is in
    subst (λ (m : ℕ). (g.S.Sectors.state c.loop-n.s).sectors m ≡ replicate 512 0) found (c.loop-n.invariant.cleared k (omega (arith, lt, c.loop-n-test.false)))

pub put-requires-clause-part : goal.put-requires-clause-part
put-requires-clause-part g c = omega (arith, (c.requires.part c.loop-n.n-index 0 c.loop-n-test.true).0, ap log_end c.loop-n.invariant.changes.store.header)

pub put-requires-clause-on_disk : goal.put-requires-clause-on_disk
put-requires-clause-on_disk g c = omega (arith, (c.requires.part c.loop-n.n-index 0 c.loop-n-test.true).1, c.loop-n.invariant.changes.store.reads.narrowed.size)
