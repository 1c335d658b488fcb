use Rattle.std.proofs.Common.{◌∙◌, ap, sym}
use Rattle.redo_journal.specs.Batch.{BatchView}
use Rattle.redo_journal.proofs.Places.{none_at_all}
use Rattle.redo_journal.proofs.batch.Batch.is_empty.Goals as goal

pub returns : goal.returns
returns c =
    let ns = c.self.inside.sectors.keys in
    let bytes = c.self.inside.contents.items in
    let none = none_at_all ns bytes c.self.invariant.0.all in
    let same = ap (λ (v : BatchView). v.entries) c.self.view_is in
    (λ yes. sym same ∙ none.0 (c.is_empty.ensures.0 yes), λ is. c.is_empty.ensures.1 (none.1 (same ∙ is)))
