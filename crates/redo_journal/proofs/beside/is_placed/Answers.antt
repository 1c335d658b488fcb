use Rattle.std.proofs.Common.{◌≡◌, true, false, rules}
use Rattle.redo_journal.specs.Batch.{has_entry}
use Rattle.redo_journal.specs.Meaning.{IsSpare, data_of}
use Rattle.redo_journal.specs.States.{IsNoTarget}
use Rattle.redo_journal.proofs.Sharing.{all_has, no_target}
use Rattle.redo_journal.proofs.beside.is_placed.Goals as goal

pub returns-then-is_some-clause-spare : goal.returns-then-is_some-clause-spare
returns-then-is_some-clause-spare g c = λ _.
    let has : has_entry c.args.placed.now.entries c.args.n ≡ true = search rules in
    all_has (IsSpare (data_of (g.D.Disk.state c.args.journal.now))) c.args.placed.now.entries c.args.n c.requires.spare has

pub returns-then-is_some-clause-beside : goal.returns-then-is_some-clause-beside
returns-then-is_some-clause-beside g c = λ _.
    let has : has_entry c.args.placed.now.entries c.args.n ≡ true = search rules in
    all_has (IsNoTarget (g.D.Disk.state c.args.journal.now)) c.args.placed.now.entries c.args.n c.requires.beside has

pub returns-then-is_spare-clause-beside : goal.returns-then-is_spare-clause-beside
returns-then-is_spare-clause-beside g c = λ is_none.
    let none : has_entry c.args.last.now.entries c.args.n ≡ false = search rules in
    no_target (g.D.Disk.state c.args.journal.now) c.args.last.now.entries c.args.n c.requires.stands none
