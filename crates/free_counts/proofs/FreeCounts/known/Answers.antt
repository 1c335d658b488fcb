use Rattle.std.proofs.Common.{None, ◌-◌, sym, ap, ◌∙◌, arith}
use Rattle.std.proofs.lemmas.List.{get_or_default}
use Rattle.free_counts.specs.Known.{CountList, count_known}
use Rattle.free_counts.proofs.Known.{known_before, known_at, known_past}
use Rattle.free_counts.proofs.FreeCounts.known.Goals as goal

pub returns-then-n-self : goal.returns-then-n-self
returns-then-n-self c =
    let list : CountList = record { first = c.self.inside.first; counts = c.self.inside.counts.items } in
    sym (known_before list c.args.n c.if-n-self.true) ∙ ap (λ (l : CountList). count_known l c.args.n) c.self.view_is

pub returns-then-place-len : goal.returns-then-place-len
returns-then-place-len c =
    let list : CountList = record { first = c.self.inside.first; counts = c.self.inside.counts.items } in
    c.index.ensures
    ∙ get_or_default list.counts (c.args.n - list.first) c.index.result.now None (omega (arith, c.if-place-len.true, c.len.ensures, c.self.inside.counts.ok.0))
    ∙ sym (known_at list c.args.n c.if-n-self.false) ∙ ap (λ (l : CountList). count_known l c.args.n) c.self.view_is

pub returns : goal.returns
returns c =
    let list : CountList = record { first = c.self.inside.first; counts = c.self.inside.counts.items } in
    sym (known_past list c.args.n c.if-n-self.false (omega (arith, c.if-place-len.false, c.len.ensures, c.self.inside.counts.ok.0)))
    ∙ ap (λ (l : CountList). count_known l c.args.n) c.self.view_is
