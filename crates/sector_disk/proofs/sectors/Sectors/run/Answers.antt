use Rattle.std.proofs.Common.{◌<◌, ◌≤◌, ◌+◌, arith, length}
use Rattle.sector_disk.proofs.Placed.{shown_is, row_seen, place_read}
use Rattle.sector_disk.proofs.sectors.Sectors.run.Goals as goal

pub returns : goal.returns
returns c =
    let i = c.self.inside in
    let start = c.get-start.result in
    let some = c.if-len-eq0.false in
    let below : c.args.first < length c.args.self.now.shown = omega (arith, some, c.requires) in
    let read = place_read i.places i.contents.items c.args.self.now.shown c.args.first start (shown_is c.self.view_is) below c.get-start.ensures in
    let placed = c.self.invariant.placed c.args.first read.0 in
    let enough = c.if-len-start.false in
    let stands : start + c.args.len ≤ length i.contents.items = omega (arith, enough, c.len.ensures, i.contents.ok.0, placed, read.1) in
    row_seen c.args.first c.args.len start i.places i.contents.items c.deref.result.now c.args.self.now.shown (shown_is c.self.view_is) c.deref.ensures.value
    c.requires stands
    (c.are_in_row.ensures c.if-not-are_in_row.false)
