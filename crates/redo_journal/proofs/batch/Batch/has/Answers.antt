use Rattle.std.proofs.Common.{◌∙◌, ap}
use Rattle.redo_journal.specs.Batch.{BatchView, has_entry}
use Rattle.redo_journal.proofs.Places.{has_is}
use Rattle.redo_journal.proofs.batch.Batch.has.Goals as goal

pub returns : goal.returns
returns c =
    let ns = c.self.inside.sectors.keys in
    let bytes = c.self.inside.contents.items in
    c.contains.ensures ∙ has_is ns bytes c.args.n c.self.invariant.0.all ∙ ap (λ (v : BatchView). has_entry v.entries c.args.n) c.self.view_is
