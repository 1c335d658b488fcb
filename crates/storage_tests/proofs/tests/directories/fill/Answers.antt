use Rattle.std.proofs.Common.{sym, arith}
use Rattle.blank_map.proofs.Placed.{has_spare}
use Rattle.storage_tests.proofs.tests.directories.fill.Goals as goal

pub insert-requires-clause-spare : goal.insert-requires-clause-spare
insert-requires-clause-spare g c = has_spare c.args.geometry 4 (g.S.Sectors.state c.loop-i.s) (omega (arith, c.room.ensures, c.if-room-geometry.false))

pub loop-i-preserved : goal.loop-i-preserved
loop-i-preserved g c =
    let change = c.in-Ok.ensures.change in
    let d = c.loop-i.invariant in
    record { sound = change.sound; below = d.below; there = sym change.now; names = (_, (c.in-Ok.ensures.names d.names.0 d.names.1).2) }
