use Rattle.std.proofs.Common.{arith}
use Rattle.sector_txn.specs.Stores.{present, map_before, map_now}
use Rattle.fs_system.proofs.Remembered.{knows_same}
use Rattle.fs_system.proofs.counted.keep.Goals as goal

pub invariant_of-result : goal.invariant_of-result
invariant_of-result g c =
    let state = g.D.Disk.state in
    let old = c.args.txn in
    let new = c.in-Ok.store in
    let put = c.sectors_put.ensures in
    knows_same (state old.disk).size (state new.disk).size (map_now state old) (present state new) c.forget.new.self
    c.in-Ok.ensures.images.size c.in-Ok.ensures.map
    (c.forget.ensures (state old.disk).size (map_before state old) (map_now state old) (λ has. let past = put.behind 0 has in omega (arith, past)) put.others c.requires.known)
