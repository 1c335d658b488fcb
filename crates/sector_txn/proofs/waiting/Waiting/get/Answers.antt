use Rattle.std.proofs.Common.{◌∙◌, ap, sym}
use Rattle.std.proofs.lemmas.Option.{IfSome_then}
use Rattle.redo_journal.specs.Batch.{BatchView, with_batch}
use Rattle.sector_txn.proofs.Commits.{none_then, over_both}
use Rattle.sector_txn.proofs.waiting.Waiting.get.Goals as goal

pub returns-in-Some-clause-content : goal.returns-in-Some-clause-content
returns-in-Some-clause-content c = λ f.
    let placed = c.args.self.now.placed.value.entries in
    let logged = c.args.self.now.logged.value.entries in
    over_both logged placed f c.args.n ∙ ap (λ (b : BatchView). with_batch b.entries (with_batch placed f) c.args.n) (sym c.deref.ensures) ∙ c.in-Some.ensures.content (with_batch placed f)

pub returns-in-None-clause-content : goal.returns-in-None-clause-content
returns-in-None-clause-content c =
    let placed = c.args.self.now.placed.value.entries in
    let logged = c.args.self.now.logged.value.entries in
    IfSome_then c.get-in-None.result c.get-in-None.ensures.content (λ content is f.
    over_both logged placed f c.args.n ∙ ap (λ (b : BatchView). with_batch b.entries (with_batch placed f) c.args.n) (sym c.deref.ensures) ∙ c.in-None.ensures.other (with_batch placed f)
    ∙ ap (λ (b : BatchView). with_batch b.entries f c.args.n) (sym c.deref-in-None.ensures) ∙ is f)

pub returns-in-None-clause-other : goal.returns-in-None-clause-other
returns-in-None-clause-other c =
    let placed = c.args.self.now.placed.value.entries in
    let logged = c.args.self.now.logged.value.entries in
    none_then c.get-in-None.result (λ other f.
    over_both logged placed f c.args.n ∙ ap (λ (b : BatchView). with_batch b.entries (with_batch placed f) c.args.n) (sym c.deref.ensures) ∙ c.in-None.ensures.other (with_batch placed f)
    ∙ ap (λ (b : BatchView). with_batch b.entries f c.args.n) (sym c.deref-in-None.ensures) ∙ other f) c.get-in-None.ensures.other
