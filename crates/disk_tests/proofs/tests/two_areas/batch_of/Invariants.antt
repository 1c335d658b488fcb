use Rattle.std.proofs.Common.{◌≡◌}
use Rattle.redo_journal.specs.Batch.{IsOnDisk}
use Rattle.disk_tests.proofs.tests.two_areas.batch_of.Given as goal

abbrev pub invariant-loop-k : goal.invariant-loop-k
invariant-loop-k l = record {
  on_disk : IsOnDisk 1 2048 l.batch.entries;
  most : l.batch.most ≡ 254;
}
