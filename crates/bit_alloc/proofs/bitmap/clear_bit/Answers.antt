use Rattle.std.proofs.Common.{◌≡◌, ◌≢◌, ◌+◌, ◌/◌, ◌%◌, ◌<◌, ℕ, ap, sym, subst, ◌∙◌, set, get_or}
use Rattle.std.specs.Prelude.{List}
use Rattle.std.specs.Int.{bit_at}
use Rattle.fs_layout.specs.Bytes.{IsSector}
use Rattle.fs_layout.proofs.Bits.{bit_put_same}
use Rattle.sector_txn.specs.Sectors.{IsPut}
use Rattle.bit_alloc.specs.Bitmaps.{sector_of}
use Rattle.bit_alloc.proofs.Marking.{room_to_mark, marked_puts, puts_byte, whole_then, written_marks, bitmaps_marked}
use Rattle.bit_alloc.proofs.bitmap.clear_bit.Goals as goal

pub put-requires-clause-room : goal.put-requires-clause-room
put-requires-clause-room g c = λ none.
    let old = g.S.Sectors.state c.args.s.now in
    room_to_mark c.args.geometry c.args.map c.args.n old c.requires.bitmaps.geometry c.requires.number.1 c.requires.room
    (ap (λ (k : ℕ). old.has_put (k + c.args.n / 4096)) (sym c.first.ensures) ∙ none)

pub returns-clause-marks : goal.returns-clause-marks
returns-clause-marks g c =
    let old = g.S.Sectors.state c.args.s.now in
    let new = g.S.Sectors.state c.put.new.self in
    let map = c.args.map in
    let n : ℕ = c.args.n in
    let s : List ℕ = c.args.sector.now in
    let at : ℕ = c.first.result in
    let is : s ≡ old.sectors (sector_of c.args.geometry map n) = c.requires.content in
    let whole : IsSector s = record { len = c.told-sector; bytes = c.fits-sector } in
    let put = puts_byte c.args.geometry map n c.with_bit.result at s old new c.first.ensures is c.told-sector c.put.ensures in
    let then = whole_then c.args.geometry map n c.with_bit.result at s old new c.first.ensures whole c.with_bit.type_inv c.put.ensures in
    let others : (i : ℕ) → i < 8 → i ≢ n % 8 → bit_at c.with_bit.result i ≡ bit_at (get_or (old.sectors (sector_of c.args.geometry map n)) (n % 4096 / 8) 0) i =
    λ i lt ne. c.with_bit.ensures.others i lt ne ∙ ap (λ (t : List ℕ). bit_at (get_or t (n % 4096 / 8) 0) i) is in
    written_marks c.args.geometry map n c.with_bit.result old.sectors new.sectors c.requires.bitmaps.geometry c.requires.number.1 c.requires.bitmaps.tables put then others

pub returns-clause-bit : goal.returns-clause-bit
returns-clause-bit g c =
    let old = g.S.Sectors.state c.args.s.now in
    let new = g.S.Sectors.state c.put.new.self in
    bit_put_same (puts_byte c.args.geometry c.args.map c.args.n c.with_bit.result c.first.result c.args.sector.now old new c.first.ensures c.requires.content c.told-sector c.put.ensures)
    ∙ c.with_bit.ensures.here

pub returns-clause-puts : goal.returns-clause-puts
returns-clause-puts g c =
    let old = g.S.Sectors.state c.args.s.now in
    let new = g.S.Sectors.state c.put.new.self in
    marked_puts c.args.geometry c.args.map c.args.n (set c.args.sector.now (c.args.n % 4096 / 8) c.with_bit.result) old new c.requires.bitmaps.geometry c.requires.number.1
    (subst (λ (k : ℕ). IsPut (k + c.args.n / 4096) (set c.args.sector.now (c.args.n % 4096 / 8) c.with_bit.result) old new) c.first.ensures c.put.ensures)

pub returns-clause-bitmaps : goal.returns-clause-bitmaps
returns-clause-bitmaps g c =
    bitmaps_marked c.args.geometry c.args.map c.args.n (g.S.Sectors.state c.args.s.now) (g.S.Sectors.state c.put.new.self) c.requires.bitmaps c.put.ensures.store c.requires.number
    (returns-clause-marks g c)
