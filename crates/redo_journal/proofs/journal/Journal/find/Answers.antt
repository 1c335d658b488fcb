use Rattle.std.proofs.Common.{◌≡◌, ◌∙◌, subst, sym}
use Rattle.std.proofs.lemmas.Option.{IfSome_then}
use Rattle.std.specs.Prelude.{IfSome}
use Rattle.redo_journal.specs.Meaning.{data_of}
use Rattle.redo_journal.proofs.Meaning.{ready_data}
use Rattle.redo_journal.proofs.journal.Journal.find.Goals as goal

pub returns : goal.returns
returns g c =
    subst (λ d. IfSome c.find.result (λ content. content.now ≡ data_of (g.D.Disk.state d) c.args.n)) c.self.view_is
    (IfSome_then c.find.result c.find.ensures (λ content is. is ∙ sym (ready_data (g.D.Disk.state c.self.inside.disk) c.self.invariant.0 c.args.n)))
