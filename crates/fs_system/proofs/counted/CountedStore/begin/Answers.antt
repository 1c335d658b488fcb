use Rattle.std.proofs.Common.{◌∙◌, ap}
use Rattle.sector_txn.specs.Stores.{present, map_before}
use Rattle.fs_system.proofs.Remembered.{knows_same}
use Rattle.fs_system.proofs.counted.CountedStore.begin.Goals as goal

pub returns-clause-known : goal.returns-clause-known
returns-clause-known g c = λ later same.
    let state = g.D.Disk.state in
    let old = c.self.inside.store in
    let begun = c.begin.ensures in
    knows_same (state old.disk).size (state later.disk).size (present state old) (map_before state later) c.self.inside.known
    (same.reads.narrowed.size ∙ ap (λ disk. (state disk).size) begun.disk) (λ n part. same.before n ∙ begun.before n part) c.self.invariant
