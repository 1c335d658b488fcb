use Rattle.std.proofs.Common.{◌≡◌, ◌*◌, ap, arith}
use Rattle.bit_alloc.specs.Bits.{clear_below}
use Rattle.bit_alloc.specs.Bitmaps.{first_sector, bit_count}
use Rattle.bit_alloc.proofs.Maps.{few_free, none_counted, numbers_counted}
use Rattle.bit_alloc.proofs.bitmap.count_free.Goals as goal

pub returns-clause-free : goal.returns-clause-free
returns-clause-free g c =
    let image = (g.S.Sectors.state c.args.s.now).sectors in
    let start = first_sector c.args.geometry c.args.map in
    let all : clear_below image start (4096 * c.sectors-sectors.result) ≡ clear_below image start (bit_count c.args.geometry c.args.map) =
    ap (clear_below image start) c.sectors-sectors.ensures in
    let total = numbers_counted c.args.geometry c.args.map image c.requires.geometry c.requires.rest in
    let none = none_counted image start in
    let some = c.in_ok-free.ensures.some in
    let few = few_free c.args.geometry c.args.map image c.requires.geometry c.requires.rest in
    let each = c.in_ok-free.ensures.all (omega (arith, some, all, total, few, none)) in
    omega (arith, each, all, total, none)
