use Rattle.std.proofs.Common.{◌≡◌, ◌∙◌, subst, sym}
use Rattle.std.specs.Prelude.{OnOk}
use Rattle.std.proofs.lemmas.Result.{on_ok_weaker}
use Rattle.redo_journal.specs.Meaning.{data_of}
use Rattle.redo_journal.proofs.Meaning.{data_stays, has_stays, next_stays, ready_data, ready_stays}
use Rattle.redo_journal.proofs.journal.Journal.read.Goals as goal

pub invariant_of-self : goal.invariant_of-self
invariant_of-self g c = let same = c.read.ensures.same.narrowed in (ready_stays _ _ same c.self.invariant.0, has_stays _ _ _ same c.self.invariant.1, next_stays _ _ _ same c.self.invariant.2)

pub returns-clause-content : goal.returns-clause-content
returns-clause-content g c =
    subst (λ d. OnOk c.read.result (c.read.new.to ≡ data_of (g.D.Disk.state d) c.args.n)) c.self.view_is
    (on_ok_weaker c.read.result (λ is. is ∙ sym (ready_data (g.D.Disk.state c.self.inside.disk) c.self.invariant.0 c.args.n)) c.read.ensures.content)

pub returns-clause-same : goal.returns-clause-same
returns-clause-same g c = λ m.
    subst (λ d. data_of (g.D.Disk.state c.read.new.self) m ≡ data_of (g.D.Disk.state d) m) c.self.view_is
    (data_stays (g.D.Disk.state c.self.inside.disk) (g.D.Disk.state c.read.new.self) c.read.ensures.same.narrowed m)
