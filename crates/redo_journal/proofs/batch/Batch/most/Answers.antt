use Rattle.std.proofs.Common.{length, ap, arith}
use Rattle.redo_journal.specs.Batch.{BatchView}
use Rattle.redo_journal.proofs.Places.{length_entries}
use Rattle.redo_journal.proofs.batch.Batch.most.Goals as goal

pub returns-clause-few : goal.returns-clause-few
returns-clause-few c =
    let ns = c.self.inside.sectors.keys in
    let bytes = c.self.inside.contents.items in
    omega (arith, c.self.invariant.0.few, length_entries ns bytes c.self.invariant.0.all, ap (λ (v : BatchView). length v.entries) c.self.view_is)
