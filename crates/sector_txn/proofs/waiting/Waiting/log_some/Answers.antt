use Rattle.std.proofs.Common.{◌≡◌, ◌∙◌, List, [], ap, rules, sym, subst}
use Rattle.redo_journal.specs.Batch.{BatchView, Entry, IsOnDisk, with_batch}
use Rattle.sector_txn.proofs.Commits.{over_both}
use Rattle.sector_txn.proofs.waiting.Waiting.log_some.Goals as goal

pub returns-clause-on_disk : goal.returns-clause-on_disk
returns-clause-on_disk c = λ header size places on_disk.
    c.log_first.ensures.on_disk header size (subst (λ (b : BatchView). IsOnDisk header size b.entries) (sym c.deref-2.ensures) places)

pub returns-clause-map : goal.returns-clause-map
returns-clause-map c = λ f n.
    let placed = c.args.self.now.placed.value.entries in
    let logged = c.args.self.now.logged.value.entries in
    let now = c.log_first.new.logged.entries in
    let unlogged : logged ≡ [] = search rules in
    over_both now placed f n ∙ ap (λ (b : BatchView). with_batch now (with_batch b.entries f) n) (sym c.deref-2.ensures) ∙ c.log_first.ensures.map f n
    ∙ ap (λ (b : BatchView). with_batch b.entries f n) c.deref-2.ensures
    ∙ sym (over_both logged placed f n ∙ ap (λ (l : List Entry). with_batch l (with_batch placed f) n) unlogged)
