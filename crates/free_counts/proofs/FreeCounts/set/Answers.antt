use Rattle.std.proofs.Common.{sym, ap, ◌∙◌, arith, inl, inr}
use Rattle.free_counts.specs.Known.{CountList, count_known}
use Rattle.free_counts.proofs.Known.{known_before, known_past, known_here, known_elsewhere}
use Rattle.free_counts.proofs.FreeCounts.set.Goals as goal

pub returns-then-n-self-clause-here : goal.returns-then-n-self-clause-here
returns-then-n-self-clause-here c =
    let list : CountList = record { first = c.self.inside.first; counts = c.self.inside.counts.items } in
    inr (ap (λ (l : CountList). count_known l c.args.n) (sym c.self.view_is) ∙ known_before list c.args.n c.if-n-self.true)

pub returns-then-place-len-clause-here : goal.returns-then-place-len-clause-here
returns-then-place-len-clause-here c =
    inl (known_here c.self.inside.first c.self.inside.counts.items c.args.n c.args.count c.if-n-self.false
    (omega (arith, c.if-place-len.true, c.len.ensures, c.self.inside.counts.ok.0)))

pub returns-then-place-len-clause-others : goal.returns-then-place-len-clause-others
returns-then-place-len-clause-others c = λ m other.
    known_elsewhere c.self.inside.first c.self.inside.counts.items c.args.n c.args.count c.if-n-self.false
    (omega (arith, c.if-place-len.true, c.len.ensures, c.self.inside.counts.ok.0)) m other
    ∙ ap (λ (l : CountList). count_known l m) c.self.view_is

pub returns-else-place-len-clause-here : goal.returns-else-place-len-clause-here
returns-else-place-len-clause-here c =
    let list : CountList = record { first = c.self.inside.first; counts = c.self.inside.counts.items } in
    inr (ap (λ (l : CountList). count_known l c.args.n) (sym c.self.view_is)
    ∙ known_past list c.args.n c.if-n-self.false (omega (arith, c.if-place-len.false, c.len.ensures, c.self.inside.counts.ok.0)))
