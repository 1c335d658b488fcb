use Rattle.std.proofs.Common.{ap}
use Rattle.sector_txn.specs.Stores.{present, map_before}
use Rattle.fs_system.proofs.Remembered.{knows_same}
use Rattle.fs_system.proofs.counted.drop_delta.Goals as goal

pub invariant_of-result : goal.invariant_of-result
invariant_of-result g c =
    let state = g.D.Disk.state in
    let old = c.args.txn in
    let new = c.drop_delta-store.result in
    knows_same (state old.disk).size (state new.disk).size (map_before state old) (present state new) c.args.known
    (ap (λ disk. (state disk).size) c.drop_delta-store.ensures.disk) c.drop_delta-store.ensures.map c.requires.known
