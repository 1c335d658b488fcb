use Rattle.std.proofs.Common.{◌≡◌, ◌+◌, ◌/◌, ◌%◌, ◌^◌, ◌<◌, ◌≤◌, ℕ, false, ap, arith, eqb-true, sym, ◌∙◌, get_or, bit_and}
use Rattle.std.proofs.lemmas.Nat.Bits.{shr_and_one}
use Rattle.std.specs.Prelude.{IsTrue, nat_eq}
use Rattle.std.specs.Int.{bit_at}
use Rattle.fs_layout.specs.declared.geometry.Geometry.{Geometry}
use Rattle.fs_layout.specs.Header.{header_of}
use Rattle.sector_disk.specs.Disk.{DiskState, sector}
use Rattle.redo_journal.specs.Meaning.{HasLayout, IsMapped, data_of}
use Rattle.redo_journal.proofs.Meaning.{data_super, mapped_by}
use Rattle.redo_journal.proofs.Used.{bit_by, bitmap_there}
use Rattle.redo_journal.proofs.journal.Journal.is_spare.Goals as goal

-- the sector of the bitmap is one of the map
there : (disk : DiskState) (p : Geometry) (n : ℕ) → HasLayout (data_of disk) p → p.sectors ≤ disk.size → n < p.sectors
    → IsMapped (header_of (sector disk.seen 0)) (p.block_bitmap + n / 4096) × (p.block_bitmap + n / 4096 < disk.size)
there disk p n layout fits below =
    let b = bitmap_there (data_of disk) p disk.size n layout fits below in
    (mapped_by (data_of disk) (sector disk.seen) (p.block_bitmap + n / 4096) (data_super disk) b.0, b.1)

-- a bit that a shift finds clear
clear_bit : (byte i : ℕ) → IsTrue (nat_eq (bit_and (byte / 2 ^ i) 1) 0) → nat_eq (bit_at byte i) 1 ≡ false
clear_bit byte i clear = ap (λ (v : ℕ). nat_eq v 1) (sym (shr_and_one byte i) ∙ eqb-true (bit_and (byte / 2 ^ i) 1) 0 clear)

pub overflow_add-geometry : goal.overflow_add-geometry
overflow_add-geometry g c =
    let disk = g.D.Disk.state c.args.self.now in
    let b = there disk c.args.geometry c.args.n c.requires.layout c.requires.on_disk (omega (arith, c.if-geometry-n.false)) in
    let small = g.met.D.Disk.size_fits c.args.self.now in
    omega (arith, b.1, small)

pub find-requires-clause-part : goal.find-requires-clause-part
find-requires-clause-part g c =
    (there (g.D.Disk.state c.args.self.now) c.args.geometry c.args.n c.requires.layout c.requires.on_disk (omega (arith, c.if-geometry-n.false))).0

pub find-requires-clause-on_disk : goal.find-requires-clause-on_disk
find-requires-clause-on_disk g c =
    (there (g.D.Disk.state c.args.self.now) c.args.geometry c.args.n c.requires.layout c.requires.on_disk (omega (arith, c.if-geometry-n.false))).1

pub returns-in-Some : goal.returns-in-Some
returns-in-Some g c = λ clear.
    let map = data_of (g.D.Disk.state c.args.self.now) in
    let n = c.args.n in
    let byte = get_or c.in-Some.content.now (n % 4096 / 8) 0 in (
      c.args.geometry,
      c.requires.layout,
      (
        omega (arith, c.if-n-geometry.false),
        omega (arith, c.if-geometry-n.false),
        sym (bit_by map c.args.geometry.block_bitmap n c.in-Some.content.now c.in-Some.ensures) ∙ clear_bit byte (n % 8) clear,
      ),
    )
