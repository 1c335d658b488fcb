use Rattle.std.proofs.Common.{◌∙◌, length, ap, sym}
use Rattle.redo_journal.specs.Batch.{BatchView}
use Rattle.redo_journal.proofs.Places.{length_entries}
use Rattle.redo_journal.proofs.batch.Batch.len.Goals as goal

pub returns-clause-len : goal.returns-clause-len
returns-clause-len c =
    let ns = c.self.inside.sectors.keys in
    let bytes = c.self.inside.contents.items in
    c.len.ensures.len ∙ sym (length_entries ns bytes c.self.invariant.0.all) ∙ ap (λ (v : BatchView). length v.entries) c.self.view_is
