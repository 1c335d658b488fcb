use Rattle.std.proofs.Common.{ℕ, List, ◌++◌, ap, ◌∙◌, arith}
use Rattle.redo_journal.proofs.Places.{with_content_at, with_content_end}
use Rattle.redo_journal.proofs.batch.set_content.Goals as goal

pub returns-then-at-len-clause-contents : goal.returns-then-at-len-clause-contents
returns-then-at-len-clause-contents c = with_content_at c.args.contents.now.items c.args.at c.args.from.now (omega (arith, c.if-at-len.true, c.len.ensures))

pub returns-clause-contents : goal.returns-clause-contents
returns-clause-contents c =
    c.in-Ok.ensures.items ∙ ap (λ (more : List (List ℕ)). c.args.contents.now.items ++ more) c.from_ref.ensures.value
    ∙ with_content_end c.args.contents.now.items c.args.at c.args.from.now (omega (arith, c.if-at-len.false, c.len.ensures, c.requires.within))
