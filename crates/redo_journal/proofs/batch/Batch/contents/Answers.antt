use Rattle.std.proofs.Common.{◌∙◌, take, ap, sym}
use Rattle.redo_journal.specs.Batch.{BatchView, contents}
use Rattle.redo_journal.proofs.Places.{contents_entries}
use Rattle.redo_journal.proofs.batch.Batch.contents.Goals as goal

pub returns-clause-contents : goal.returns-clause-contents
returns-clause-contents c =
    let ns = c.self.inside.sectors.keys in
    let bytes = c.self.inside.contents.items in
    (λ j. take (c.len.ensures.len j) (c.deref.ensures.value j))
    ∙ sym (contents_entries ns bytes c.self.invariant.0.all) ∙ ap (λ (v : BatchView). contents v.entries) c.self.view_is
