use Rattle.std.proofs.Common.{◌≡◌, ◌+◌, ◌/◌, ℕ, List, get_or, refl, sym, ap, subst, ◌∙◌, arith, inl, inr}
use Rattle.std.proofs.lemmas.Bool.{cases_lt}
use Rattle.std.proofs.lemmas.Result.{IfOk-from_err}
use Rattle.fs_layout.specs.Bytes.{SectorMap}
use Rattle.fs_layout.specs.InodeChanges.{Puts}
use Rattle.sector_txn.specs.Sectors.{IsPut}
use Rattle.bit_alloc.specs.Bitmaps.{first_sector, IsNumberOf, GivesNumbers}
use Rattle.bit_alloc.proofs.Listed.{bitmaps_given, first_kept, gives_listed, in_disk, in_map, listed_earlier, listed_put, listed_wider, gives_none, listed_zero}
use Rattle.bit_alloc.proofs.Marking.{room_to_mark}
use Rattle.bit_alloc.proofs.Transactions.{bitmaps_unchanged, map_unchanged, puts_after, spare_unchanged}
use Rattle.bit_alloc.proofs.Passing.{fault_on, no_fault, through_try}
use Rattle.sector_txn.proofs.TransactionRuns.{store_same, changes_nothing}
use Rattle.bit_alloc.specs.Room.{bitmaps}
use Rattle.bit_alloc.proofs.bitmap.give_next.Goals as goal

pub get-requires-clause-on_disk : goal.get-requires-clause-on_disk
get-requires-clause-on_disk g c =
    let is = first_kept c.args.geometry c.args.map c.requires.numbers c.requires.within
    c.if-numbers-from-eq0.false in
    let low = in_disk c.args.map _ c.requires.bitmaps is.1 in
    omega (arith, low, c.first.ensures)

pub put-requires-clause-on_disk : goal.put-requires-clause-on_disk
put-requires-clause-on_disk g c =
    let is = first_kept c.args.geometry c.args.map c.requires.numbers c.requires.within
    c.if-numbers-from-eq0.false in
    let low = in_disk c.args.map _ c.requires.bitmaps is.1 in
    omega (arith, low, c.first-2.ensures, c.in_ok-get.ensures.same.store.reads.narrowed.size)

pub put-requires-clause-room : goal.put-requires-clause-room
put-requires-clause-room g c = λ none.
    let n : ℕ = get_or c.args.numbers.now c.args.from 0 in
    let is = first_kept c.args.geometry c.args.map c.requires.numbers c.requires.within
    c.if-numbers-from-eq0.false in
    let mid = g.S.Sectors.state c.get.new.self in
    room_to_mark c.args.geometry c.args.map n mid c.requires.bitmaps.geometry is.1
    (spare_unchanged c.args.geometry 0 (g.S.Sectors.state c.args.s.now) mid c.requires.room c.in_ok-get.ensures.same)
    (ap (λ (k : ℕ). mid.has_put (k + n / 4096)) (sym c.first-2.ensures) ∙ none)

pub returns-clause-given : goal.returns-clause-given
returns-clause-given g c =
    let p = c.args.geometry in
    let map = c.args.map in
    let numbers : List ℕ = c.args.numbers.now in
    let n : ℕ = get_or numbers c.args.from 0 in
    let is = first_kept c.args.geometry c.args.map c.requires.numbers c.requires.within
    c.if-numbers-from-eq0.false in
    let old = g.S.Sectors.state c.args.s.now in
    let mid = g.S.Sectors.state c.get.new.self in
    let new = g.S.Sectors.state c.put.new.self in
    let same = map_unchanged c.in_ok-get.ensures.same in
    let has = bitmaps_unchanged p old mid c.requires.bitmaps c.in_ok-get.ensures.same in
    let here : c.get.new.to ≡ mid.sectors (first_sector p map + n / 4096) =
    c.in_ok-get.ensures.content ∙ ap (λ (image : SectorMap). image (c.first.result + n / 4096)) same ∙ ap (λ (k : ℕ). mid.sectors (k + n / 4096)) c.first.ensures in
    let put : Puts (first_sector p map + n / 4096) c.clear_listed-end.new.sector mid.sectors new.sectors =
    subst (λ (k : ℕ). Puts (k + n / 4096) c.clear_listed-end.new.sector mid.sectors new.sectors) c.first-2.ensures c.put.ensures.sectors in
    subst (λ (image : SectorMap). GivesNumbers p map (IsNumberOf numbers c.args.from c.clear_listed-end.result) image new.sectors) (sym same)
    (gives_listed has.geometry has.tables (in_map p map n has.geometry is.1) here c.clear_listed-end.ensures.whole put c.clear_listed-end.ensures.cleared)

-- the first of them has its bit in this sector
pub returns-clause-more : goal.returns-clause-more
returns-clause-more g c =
    let numbers : List ℕ = c.args.numbers.now in
    let from : ℕ = c.args.from in
    let end : ℕ = c.clear_listed-end.result in
    let low = c.clear_listed-end.ensures.within.0 in
    elim (cases_lt from end) [
      | inl lt ↦ lt
      | inr ge ↦
          let same : end ≡ from = omega (arith, ge, low) in
          absurd ((c.clear_listed-end.ensures.rest (omega (arith, same, c.requires.within))).1 (ap (λ (i : ℕ). get_or numbers i 0 / 4096) same))
    ]

pub returns-clause-within : goal.returns-clause-within
returns-clause-within g c = c.clear_listed-end.ensures.within.1

pub returns-clause-puts : goal.returns-clause-puts
returns-clause-puts g c =
    let numbers : List ℕ = c.args.numbers.now in
    let from : ℕ = c.args.from in
    let n : ℕ = get_or numbers from 0 in
    let is = first_kept c.args.geometry c.args.map c.requires.numbers c.requires.within
    c.if-numbers-from-eq0.false in
    let more = returns-clause-more g c in
    puts_after c.in_ok-get.ensures.same
    (listed_put n c.requires.bitmaps.geometry is.1 (record { place = from; from = omega arith; before = more; is = refl; some = c.if-numbers-from-eq0.false })
    (subst (λ (k : ℕ). IsPut (k + n / 4096) c.clear_listed-end.new.sector (g.S.Sectors.state c.get.new.self) (g.S.Sectors.state c.put.new.self)) c.first-2.ensures c.put.ensures))

pub returns-clause-bitmaps : goal.returns-clause-bitmaps
returns-clause-bitmaps g c =
    let within = c.clear_listed-end.ensures.within in
    bitmaps_given c.requires.bitmaps (returns-clause-puts g c).store
    (λ n w. c.requires.numbers n (listed_wider within.1 (listed_earlier (omega arith) w))) (returns-clause-given g c)

pub returns-then-numbers-from-eq0-clause-given : goal.returns-then-numbers-from-eq0-clause-given
returns-then-numbers-from-eq0-clause-given g c = gives_none c.requires.bitmaps.tables (λ n w. listed_zero w c.if-numbers-from-eq0.true)

pub returns-then-numbers-from-eq0-clause-puts : goal.returns-then-numbers-from-eq0-clause-puts
returns-then-numbers-from-eq0-clause-puts g c = changes_nothing (bitmaps c.args.geometry)

pub returns-then-numbers-from-eq0-clause-cause : goal.returns-then-numbers-from-eq0-clause-cause
returns-then-numbers-from-eq0-clause-cause g c = no_fault {old = g.S.Sectors.state c.args.s.now} store_same

pub returns-in_err-get-clause-unchanged : goal.returns-in_err-get-clause-unchanged
returns-in_err-get-clause-unchanged g c = through_try _ c.from_residual.result c.in_err-get.field-0.0 c.from_residual.ensures c.in_err-get.ensures.same

pub returns-in_err-get-clause-cause : goal.returns-in_err-get-clause-cause
returns-in_err-get-clause-cause g c = fault_on {old = g.S.Sectors.state c.args.s.now} store_same c.in_err-get.ensures.cause c.from_residual.result c.from_residual.ensures

pub returns-clause-cause : goal.returns-clause-cause
returns-clause-cause g c = no_fault (returns-clause-puts g c).store

pub returns-in_err-get-clause-more : goal.returns-in_err-get-clause-more
returns-in_err-get-clause-more g c = IfOk-from_err c.from_residual.result _ c.from_residual.ensures.0

pub returns-in_err-get-clause-within : goal.returns-in_err-get-clause-within
returns-in_err-get-clause-within g c = IfOk-from_err c.from_residual.result _ c.from_residual.ensures.0

pub returns-in_err-get-clause-given : goal.returns-in_err-get-clause-given
returns-in_err-get-clause-given g c = IfOk-from_err c.from_residual.result _ c.from_residual.ensures.0

pub returns-in_err-get-clause-puts : goal.returns-in_err-get-clause-puts
returns-in_err-get-clause-puts g c = IfOk-from_err c.from_residual.result _ c.from_residual.ensures.0

pub returns-in_err-get-clause-bitmaps : goal.returns-in_err-get-clause-bitmaps
returns-in_err-get-clause-bitmaps g c = IfOk-from_err c.from_residual.result _ c.from_residual.ensures.0

pub returns-then-numbers-from-eq0-clause-more : goal.returns-then-numbers-from-eq0-clause-more
returns-then-numbers-from-eq0-clause-more g c = omega arith

pub returns-then-numbers-from-eq0-clause-within : goal.returns-then-numbers-from-eq0-clause-within
returns-then-numbers-from-eq0-clause-within g c = omega (arith, c.requires.within)

pub returns-then-numbers-from-eq0-clause-bitmaps : goal.returns-then-numbers-from-eq0-clause-bitmaps
returns-then-numbers-from-eq0-clause-bitmaps g c = c.requires.bitmaps
