use Rattle.std.proofs.Common.{◌≡◌, length}
use Rattle.redo_journal.proofs.Absorbing.{HasTaken}
use Rattle.redo_journal.proofs.batch.Batch.absorb.Given as goal

abbrev pub invariant-loop-n : goal.invariant-loop-n
invariant-loop-n l = HasTaken l.initial.self.entries l.self.entries l.other.entries (length l.yielded) × (l.self.most ≡ l.initial.self.most)
