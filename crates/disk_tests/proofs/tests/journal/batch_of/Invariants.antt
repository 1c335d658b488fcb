use Rattle.std.proofs.Common.{◌≡◌, ℕ, ◌+◌, ◌≤◌}
use Rattle.redo_journal.specs.Batch.{IsOnDisk}
use Rattle.disk_tests.proofs.tests.journal.batch_of.Given as goal

abbrev pub invariant-loop-k : goal.invariant-loop-k
invariant-loop-k l = record {
  on_disk : (size : ℕ) → 200 + l.count ≤ size → IsOnDisk 0 size l.batch.entries;
  most : l.batch.most ≡ 126;
}
