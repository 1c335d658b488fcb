use Rattle.std.proofs.Common.{◌∙◌, ap, sym}
use Rattle.redo_journal.specs.Batch.{BatchView, targets}
use Rattle.redo_journal.proofs.Places.{targets_entries}
use Rattle.redo_journal.proofs.batch.Batch.sectors.Goals as goal

pub returns-clause-sectors : goal.returns-clause-sectors
returns-clause-sectors c =
    let ns = c.self.inside.sectors.keys in
    let bytes = c.self.inside.contents.items in
    c.as_slice.ensures.keys ∙ sym (targets_entries ns bytes c.self.invariant.0.all) ∙ ap (λ (v : BatchView). targets v.entries) c.self.view_is
