use Rattle.std.proofs.Common.{◌≡◌, ◌+◌, ◌-◌, ◌*◌, ◌/◌, ◌%◌, ◌<◌, ℕ, ap, sym, subst, ◌∙◌, arith, inl, inr, IsTrue}
use Rattle.std.proofs.lemmas.Bool.{cases_lt}
use Rattle.std.proofs.lemmas.Nat.{mod_below}
use Rattle.std.proofs.Math.Nat.{mod-add-mod, mod-eq_of_lt, add-mod_right}
use Rattle.fs_layout.specs.Bytes.{SectorMap}
use Rattle.fs_layout.specs.Images.{bit}
use Rattle.fs_layout.specs.InodeChanges.{Puts}
use Rattle.sector_txn.specs.Sectors.{IsPut}
use Rattle.sector_txn.proofs.TransactionRuns.{store_joined}
use Rattle.bit_alloc.specs.Bits.{AreSet}
use Rattle.bit_alloc.specs.Bitmaps.{first_sector, bit_count}
use Rattle.bit_alloc.proofs.Maps.{bit_in_sector, all_set, numbers_counted}
use Rattle.bit_alloc.proofs.Taking.{map_sector, room_for_map, takes_listed, takes_after, bitmaps_taken, taken_puts}
use Rattle.bit_alloc.proofs.Transactions.{unchanged_joined, map_unchanged, bitmaps_unchanged, spare_unchanged, puts_after}
use Rattle.bit_alloc.proofs.Passing.{through_try, other_fault_on, no_fault_of}
use Rattle.bit_alloc.proofs.bitmap.take_next.Goals as goal

-- ---- m sectors in turn, from some one on
-- each has its turn
has_turn : (a m k : ℕ) → k < m → (turn : ℕ) × (turn < m) × ((a + turn) % m ≡ k)
has_turn a m k low =
    let r : ℕ = a % m in
    let below : r < m = mod_below a m (omega (arith, low)) in
    elim (cases_lt k r) [
      | inl before ↦
          let at : r + (k + m - r) ≡ k + m = omega (arith, before, below) in
          (k + m - r, omega (arith, before, below), sym (mod-add-mod a m (k + m - r)) ∙ ap (λ (n : ℕ). n % m) at ∙ add-mod_right k m ∙ mod-eq_of_lt low)
      | inr from ↦
          let at : r + (k - r) ≡ k = omega (arith, from) in
          (k - r, omega (arith, low), sym (mod-add-mod a m (k - r)) ∙ ap (λ (n : ℕ). n % m) at ∙ mod-eq_of_lt low)
    ]

-- after the last all bits are set
set_in_all : (image : SectorMap) (start a m : ℕ) → ((j : ℕ) → j < m → AreSet (image (start + (a + j) % m)) 4096) → (i : ℕ) → i < 4096 * m → IsTrue (bit image start i)
set_in_all image start a m full i low =
    let turn = has_turn a m (i / 4096) (omega (arith, low)) in
    bit_in_sector image start i
    ∙ subst (λ (k : ℕ). AreSet (image (start + k)) 4096) turn.2 (full turn.0 turn.1) (i % 4096) (omega arith)

pub put-requires-clause-room : goal.put-requires-clause-room
put-requires-clause-room g c = λ none.
    let k : ℕ = (c.first_sought-first.result + c.loop-turn.turn) % c.sectors-sectors.result in
    let mid = g.S.Sectors.state c.get.new.self in
    let below : k < c.sectors-sectors.result = mod_below (c.first_sought-first.result + c.loop-turn.turn) c.sectors-sectors.result (omega (arith, c.loop-turn-test.true)) in
    room_for_map c.args.geometry c.args.map mid (map_sector c.args.geometry c.args.map c.requires.bitmaps.geometry c.sectors-sectors.ensures below) c.requires.bitmaps.geometry
    (spare_unchanged c.args.geometry 0 (g.S.Sectors.state c.args.s.now) mid c.requires.room (unchanged_joined c.loop-turn.invariant.same c.in_ok-get.ensures.same))
    (ap (λ (m : ℕ). mid.has_put (m + k)) (sym c.first-then-end-from.ensures) ∙ none)

pub returns-then-end-from-clause-taken : goal.returns-then-end-from-clause-taken
returns-then-end-from-clause-taken g c =
    let p = c.args.geometry in
    let map = c.args.map in
    let k : ℕ = (c.first_sought-first.result + c.loop-turn.turn) % c.sectors-sectors.result in
    let old = g.S.Sectors.state c.args.s.now in
    let mid = g.S.Sectors.state c.get.new.self in
    let new = g.S.Sectors.state c.put.new.self in
    let below : k < c.sectors-sectors.result = mod_below (c.first_sought-first.result + c.loop-turn.turn) c.sectors-sectors.result (omega (arith, c.loop-turn-test.true)) in
    let same = unchanged_joined c.loop-turn.invariant.same c.in_ok-get.ensures.same in
    let has = bitmaps_unchanged p old mid c.requires.bitmaps same in
    let here : c.get.new.to ≡ mid.sectors (first_sector p map + k) =
    c.in_ok-get.ensures.content ∙ sym (c.in_ok-get.ensures.same.sectors (c.first.result + k)) ∙ ap (λ (m : ℕ). mid.sectors (m + k)) c.first.ensures in
    let put : Puts (first_sector p map + k) c.set_listed-end.new.sector mid.sectors new.sectors =
    subst (λ (m : ℕ). Puts (m + k) c.set_listed-end.new.sector mid.sectors new.sectors) c.first-then-end-from.ensures c.put.ensures.sectors in
    takes_after (map_unchanged same)
    (takes_listed map k has.geometry (omega (arith, below, c.sectors-sectors.ensures)) (map_sector p map has.geometry c.sectors-sectors.ensures below) has.tables has.rest here put
    c.set_listed-end.ensures.set)

pub returns-then-end-from-clause-puts : goal.returns-then-end-from-clause-puts
returns-then-end-from-clause-puts g c =
    let k : ℕ = (c.first_sought-first.result + c.loop-turn.turn) % c.sectors-sectors.result in
    let mid = g.S.Sectors.state c.get.new.self in
    let new = g.S.Sectors.state c.put.new.self in
    puts_after (unchanged_joined c.loop-turn.invariant.same c.in_ok-get.ensures.same)
    (taken_puts c.requires.bitmaps.geometry c.if-end-from.true (returns-then-end-from-clause-taken g c) c.set_listed-end.ensures.set
    (subst (λ (m : ℕ). IsPut (m + k) c.set_listed-end.new.sector mid new) c.first-then-end-from.ensures c.put.ensures))

pub returns-then-end-from-clause-bitmaps : goal.returns-then-end-from-clause-bitmaps
returns-then-end-from-clause-bitmaps g c =
    bitmaps_taken c.requires.bitmaps (store_joined (unchanged_joined c.loop-turn.invariant.same c.in_ok-get.ensures.same).store c.put.ensures.store) (omega (arith, c.if-end-from.true))
    (returns-then-end-from-clause-taken g c)

-- none is free
pub returns-clause-full : goal.returns-clause-full
returns-clause-full g c = λ full.
    let image : SectorMap = (g.S.Sectors.state c.args.s.now).sectors in
    let sectors : ℕ = c.sectors-sectors.result in
    let end : sectors ≡ c.loop-turn.turn = omega (arith, c.loop-turn.auto.turn-end, c.loop-turn-test.false) in
    let set = set_in_all image (first_sector c.args.geometry c.args.map) (c.first_sought-first.result) sectors (λ j low. c.loop-turn.invariant.full j (omega (arith, low, end))) in
    sym (numbers_counted c.args.geometry c.args.map image c.requires.bitmaps.geometry c.requires.bitmaps.rest)
    ∙ all_set image (first_sector c.args.geometry c.args.map) (bit_count c.args.geometry c.args.map) (λ i low. set i (omega (arith, low, c.sectors-sectors.ensures)))

pub returns-in_err-get-clause-unchanged : goal.returns-in_err-get-clause-unchanged
returns-in_err-get-clause-unchanged g c = through_try _ c.from_residual.result _ c.from_residual.ensures (unchanged_joined c.loop-turn.invariant.same c.in_err-get.ensures.same)

pub returns-in_err-get-clause-cause : goal.returns-in_err-get-clause-cause
returns-in_err-get-clause-cause g c = other_fault_on c.loop-turn.invariant.same.store c.in_err-get.ensures.cause c.from_residual.result c.from_residual.ensures.0

pub returns-then-end-from-clause-cause : goal.returns-then-end-from-clause-cause
returns-then-end-from-clause-cause g c = no_fault_of (store_joined (unchanged_joined c.loop-turn.invariant.same c.in_ok-get.ensures.same).store c.put.ensures.store)

pub returns-clause-unchanged : goal.returns-clause-unchanged
returns-clause-unchanged g c = c.loop-turn.invariant.same
