use Rattle.std.proofs.Common.{◌≡◌, length}
use Rattle.redo_journal.specs.Meaning.{IsSpare, data_of}
use Rattle.redo_journal.specs.States.{IsNoTarget}
use Rattle.redo_journal.proofs.Sharing.{HaveShared}
use Rattle.redo_journal.proofs.beside.absorb_beside.Given as goal

abbrev pub invariant-loop-n : goal.invariant-loop-n
invariant-loop-n g l =
    HaveShared (IsSpare (data_of (g.D.Disk.state l.journal))) (IsNoTarget (g.D.Disk.state l.journal)) l.initial.placed.entries l.initial.logged.entries l.batch.entries l.placed.entries l.logged.entries (length l.yielded)
    × (l.placed.most ≡ l.initial.placed.most) × (l.logged.most ≡ l.initial.logged.most)
