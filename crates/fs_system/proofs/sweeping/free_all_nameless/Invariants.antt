use Rattle.sector_txn.specs.Stores.{present}
use Rattle.fs_system.proofs.Sweeps.{IsSweeping}
use Rattle.fs_system.proofs.sweeping.free_all_nameless.Given as goal

abbrev pub invariant-loop-ino : goal.invariant-loop-ino
invariant-loop-ino g l =
    IsSweeping l.geometry (present g.D.Disk.state l.fn.store) (g.D.Disk.state l.fn.store.disk) (present g.D.Disk.state l.store) (g.D.Disk.state l.store.disk) l.ino
