use Rattle.std.proofs.Common.{arith}
use Rattle.disk_tests.proofs.tests.disks.run_clients.Goals as goal

pub scatter-requires : goal.scatter-requires
scatter-requires g c = λ k d below. omega (arith, c.requires.contents_fit k d below, c.write_and_mark.ensures.size, c.sync.ensures.changes.size)
