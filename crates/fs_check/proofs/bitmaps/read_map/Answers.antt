use Rattle.std.proofs.Common.{arith}
use Rattle.sector_disk.proofs.Moments.{reads_nothing}
use Rattle.fs_check.proofs.BitTests.{map_on_disk}
use Rattle.fs_check.proofs.bitmaps.read_map.Goals as goal

pub overflow_add-opened : goal.overflow_add-opened
overflow_add-opened g c =
    let below = map_on_disk _ _ c.args.opened.now.geometry c.args.n c.requires.opened.geometry c.requires.bit in
    let small = g.met.D.Disk.size_fits c.args.disk.now in
    omega (arith, below, small)

pub read_recovered-requires-clause-on_disk : goal.read_recovered-requires-clause-on_disk
read_recovered-requires-clause-on_disk g c = map_on_disk _ _ c.args.opened.now.geometry c.args.n c.requires.opened.geometry c.requires.bit

pub returns-then-n-ne0-clause-passed : goal.returns-then-n-ne0-clause-passed
returns-then-n-ne0-clause-passed g c = record { reads = reads_nothing; reason = tt }
